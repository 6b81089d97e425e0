use Rattle.data_url.proofs.mime.RoundTrips.{copied_pairs, same_seen}
use Rattle.data_url.proofs.mime.Mime.clone.Goals as goal

pub returns-clause-texts : goal.returns-clause-texts
returns-clause-texts c = record {
  type_ = c.in_ok-clone.ensures.cases;
  subtype = c.in_ok-clone-2.ensures.cases;
  parameters = copied_pairs c.args.self.now.parameters.items c.in_ok-clone-3.field-0.items
      c.in_ok-clone-3.ensures.cases.0;
}

pub returns-clause-seen : goal.returns-clause-seen
returns-clause-seen c = same_seen _ c.args.self.now (returns-clause-texts c)
