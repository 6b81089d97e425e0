use Rattle.std.{proofs.Common.{Ok, rules, ◌≡◌}, proofs.lemmas.List.{take_rest}}
use Rattle.data_url.specs.declared.body.Stop.TheVariants.{Ended}
use Rattle.data_url.proofs.parts.Bodies.{ends_at, stops_ended}
use Rattle.data_url.proofs.parts.body.Body.next_part.Goals as goal

pub returns-in-Ok-Ended : goal.returns-in-Ok-Ended
returns-in-Ok-Ended c =
    let w = c.write_body-len.ensures in
    let ended : c.write_body-len.result.1 ≡ Ok (Ended c.in-Ok-Ended.place) = search rules in
    let stops = stops_ended c.args.self.base64 c.args.self.left_over c.write_body-len.new.left_over
    _ _ w.stops ended (take_rest c.args.self.tail.now c.args.self.place) in
    record {
      bytes = w.bytes;
      wrote = w.wrote;
      goes_on = (stops.0, ends_at c.args.self c.in-Ok-Ended.place stops.1);
    }
