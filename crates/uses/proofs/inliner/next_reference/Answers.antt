use Rattle.std.proofs.Common.{rules, None, Some}
use Rattle.std.proofs.lemmas.Str.Pattern.{find_char}
use Rattle.uses.proofs.PageLemmas.{is_reference, none_ended, none_opened, opened}
use Rattle.uses.proofs.inliner.next_reference.Goals as goal

pub returns-in_default : goal.returns-in_default
returns-in_default c = none_opened c.args.page.now c.in_default.ensures.cases

pub returns-in_default-find : goal.returns-in_default-find
returns-in_default-find c =
    let o = opened c.args.page.now c.in-Some.place c.in-Some.ensures.cases.0 c.in-Some.ensures.cases.1 in
    let k = find_char 34 c.split_at.result.1.now None c.in_default-find.ensures.cases (search rules) in
    none_ended c.args.page.now c.split_at.result.1.now c.in-Some.place o c.split_at.ensures.back k

pub returns : goal.returns
returns c =
    let o = opened c.args.page.now c.in-Some.place c.in-Some.ensures.cases.0 c.in-Some.ensures.cases.1 in
    let k = find_char 34 c.split_at.result.1.now (Some c.in-Some-find.end) c.in-Some-find.ensures.cases
    (search rules) in
    let h = is_reference c.args.page.now c.split_at.result.1.now c.in-Some.place c.in-Some-find.end o
    c.split_at.ensures.back k.0 k.1 k.2 in
    rw (c.split_at.ensures.front, c.split_at-2.ensures.front, c.split_at-2.ensures.back) h
