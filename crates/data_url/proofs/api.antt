-- The only proofs of the library that callers may use. docs/CALLING.md says what they are for.
pub use Rattle.data_url.proofs.body.Decoding.{EndsWith, body_answer, body_ends, body_extends, body_fault, body_good}
pub use Rattle.data_url.proofs.body.Decoding.{body_keeps, body_shorter, body_within_tail, body_within_text}
pub use Rattle.data_url.proofs.body.Decoding.{outcome_shorter}
unfoldable pub use Rattle.data_url.proofs.{examples.Literals.{on_literals}, forgiving_base64.Padding.{fault_byte}}
pub use Rattle.data_url.proofs.forgiving_base64.Groups.{groups_length, two_feeds}
pub use Rattle.data_url.proofs.forgiving_base64.Padding.{after_groups-append, done_stays, every_after}
pub use Rattle.data_url.proofs.forgiving_base64.Padding.{every_list_all, fault-append, fault-append_some}
pub use Rattle.data_url.proofs.forgiving_base64.Padding.{fault_invalid, fault_some, filter_every, kind_fault}
pub use Rattle.data_url.proofs.forgiving_base64.Padding.{kind_stays, length-after_groups, none_fault}
pub use Rattle.data_url.proofs.forgiving_base64.Steps.{after_few, bool_at_true, decoded_left, done_more, fault_after}
pub use Rattle.data_url.proofs.forgiving_base64.Steps.{fault_more, fault_other, fault_space, fault_symbol, feeds_err}
pub use Rattle.data_url.proofs.forgiving_base64.Steps.{feeds_none, feeds_then, feeds_took, groups_few, has_pad}
pub use Rattle.data_url.proofs.forgiving_base64.Steps.{kind_left, left_more, padding_more, symbols_more}
pub use Rattle.data_url.proofs.forgiving_base64.WholeTexts.{decodes_finished, decodes_keeps, decodes_reads}
pub use Rattle.data_url.proofs.forgiving_base64.WholeTexts.{decodes_refused, fed_nothing}
pub use Rattle.data_url.proofs.header.Stages.{body_of_url, bytes_by_place, bytes_trimmed, fragment_of_url, is_accepted}
pub use Rattle.data_url.proofs.header.Stages.{lacks_comma, rest_bytes, scheme_has_no_comma, stages_accepted}
pub use Rattle.data_url.proofs.header.{Serialising.{suffix_stop}, Stages.{stages_no_comma, stages_no_scheme}}
pub use Rattle.data_url.proofs.mime.{FirstNames.{test_from_different}, TokenTexts.{every_from_all}}
pub use Rattle.data_url.proofs.parts.Bodies.{prepend_more}
pub use Rattle.data_url.proofs.percent.Encoding.{IsBytes, ascii_all, decoded_keeps, two_digits}
pub use Rattle.data_url.proofs.runs.Runs.{match_alike, match_at_none, match_map, match_none, match_some, prefix_after}
pub use Rattle.data_url.proofs.runs.Runs.{prefix_none, prefix_trans, run_counts, run_counts_up_to, run_ends}
pub use Rattle.data_url.proofs.runs.Runs.{run_extends}
pub use Rattle.data_url.proofs.runs.Runs.{run_keeps, run_reads}
pub use Rattle.data_url.proofs.texts.Bytes.{before-append, before_all, before_at, after-append, after-dropped_none}
pub use Rattle.data_url.proofs.texts.Bytes.{after_at, after_nil, after_none, after_other, dropped_around}
pub use Rattle.data_url.proofs.texts.Bytes.{dropped_keeps, dropped_nil, dropped_passes, fragment_dropped, is_cut, lacks}
pub use Rattle.data_url.proofs.texts.Bytes.{without_tabs_and_newlines-append}
-- Words of the lemmas above
pub use Rattle.data_url.specs.Steps.Split.{HasNoScheme, IsHeaderAndTail, IsSchemeAndRest}
unfoldable pub use Rattle.data_url.specs.Steps.Header.{header_text}
pub use Rattle.data_url.specs.Steps.Split.{is_unencoded_path}
pub use Rattle.data_url.specs.Steps.Whole.{DecodesText}
