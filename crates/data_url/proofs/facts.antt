-- Facts about the definitions of specs/, each a lemma. docs/PROMISES.md lists them.
pub mod Definitions
pub use Rattle.data_url.proofs.forgiving_base64.Padding.{first_fault_least, padding_fits}
pub use Rattle.data_url.proofs.header.Serialising.{flag_of_spaces, no_last_space}
pub use Rattle.data_url.proofs.mime.Items.{has_at_most_one_record, has_one_item_list}
pub use Rattle.data_url.proofs.texts.Bytes.{fragment_dropped}
