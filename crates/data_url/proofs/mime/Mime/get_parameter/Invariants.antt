-- No parameter so far has the name.
use Rattle.std.proofs.Common.{◌≡◌, drop}
use Rattle.data_url.specs.MimeType.{value_of_name}
use Rattle.data_url.proofs.mime.Mime.get_parameter.Given as goal

abbrev pub invariant-loop-key : goal.invariant-loop-key
invariant-loop-key l = value_of_name l.name (drop l.key-index l.self.parameters.items)
    ≡ value_of_name l.name l.self.parameters.items
