use Rattle.dataurl.proofs.CommandLemmas.{no_command}
use Rattle.dataurl.proofs.command.command_of.Goals as goal

pub returns-in_default-as_str : goal.returns-in_default-as_str
returns-in_default-as_str c =
    no_command c.args.words.now c.word-item.result c.as_str.result.now c.in-len1.len_at_least c.in-len1.len_below
    c.word-item.is c.as_str.ensures.value c.in_default-as_str.not-body c.in_default-as_str.not-mime
    c.in_default-as_str.not-fragment c.in_default-as_str.not-type c.in_default-as_str.not-base64
