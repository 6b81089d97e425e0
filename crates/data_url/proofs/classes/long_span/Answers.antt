use Rattle.std.proofs.{Common.{◌≡◌, ◌<◌, ℕ, arith, false, not, refl, true}, lemmas.List.{take_rest}}
use Rattle.data_url.specs.Steps.{Classes.{in_class, may_be_outside}, Header.{is_no_question_mark}}
use Rattle.data_url.specs.Steps.Split.{is_unencoded_path}
use Rattle.data_url.specs.Steps.Parsing.{is_escaped, is_quotable_byte, is_unquoted_byte}
use Rattle.data_url.proofs.{classes.Rows.{all_marked, unmarked_passes}, texts.CodePoints.{front_further}}
use Rattle.data_url.proofs.classes.long_span.Goals as goal

-- a byte that the bits of the class do not mark is in the class
unmarked : (c : goal.After-span) (b : ℕ) → b < 256 → may_be_outside c.match-class.class_table b ≡ false
    → in_class c.args.class b ≡ true
unfolding is_quotable_byte
unmarked c = elim c.match-class.branch [
  | goal.in-Quotable w ↦ rw (w.in-Quotable.is, w.class_table-is) (unmarked_passes _ is_quotable_byte refl)
  | goal.in-Unquoted w ↦ rw (w.in-Unquoted.is, w.class_table-is) (unmarked_passes _ is_unquoted_byte refl)
  | goal.in-UnencodedPath w ↦ rw (w.in-UnencodedPath.is, w.class_table-is) (unmarked_passes _ is_unencoded_path refl)
  | goal.in-Path w ↦ rw (w.in-Path.is, w.class_table-is) (unmarked_passes _ is_no_question_mark refl)
  | goal.in-Unescaped w ↦ rw (w.in-Unescaped.is, w.class_table-is) (unmarked_passes _ (λ b. not (is_escaped b)) refl)
  | goal.in_default w ↦ rw w.class_table-is (all_marked _ _ refl)
]

pub returns-clause-prefix : goal.returns-clause-prefix
returns-clause-prefix c = grind (arith, unmarked, take_rest, front_further)
