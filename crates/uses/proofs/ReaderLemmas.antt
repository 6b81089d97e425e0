-- Reading a body in several parts.
use Rattle.std.proofs.Common.{List, [], append-nil, arith, drop, drop-drop, length, length-drop, take}
use Rattle.std.proofs.Common.{◌+◌, ◌++◌, ◌-◌, ◌≡◌, ℕ}
use Rattle.std.proofs.Math.Seq.{drop-append-add, take-append-add}
use Rattle.std.proofs.lemmas.List.{drop_all, length-take-le}
use borrow.Rule.Slice.PartMut.{put_mid}
use Rattle.data_url.specs.Parts.{WritesFront}
use Rattle.data_url.proofs.api.{prepend_more}
use Rattle.uses.specs.Reads.{WritesNext, rest_body}
use Rattle.uses.specs.declared.reader.Rest.{Rest}

-- bytes that were written after others
writes_more : {x y out mid part : List ℕ} {m n : ℕ} → length mid ≡ length out → WritesFront x out mid m
    → WritesFront y (drop m mid) part n → WritesFront (x ++ y) out (take m mid ++ part) (m + n)
writes_more {x} {y} {out} {mid} {part} {m} {n} same h k =
    let front : length (take m mid) ≡ m = length-take-le m mid (omega (arith, h.within)) in
    record {
      within = omega (arith, h.within, k.within, length-drop m mid);
      bytes_are = cc (take-append-add (take m mid) part n, front, h.bytes_are, k.bytes_are);
      rest_stays = cc (drop-append-add (take m mid) part n, front, k.rest_stays, h.rest_stays, drop-drop n m out);
    }

-- one part more was read, to the rest of an output
pub reads_more : {a b c : Rest} {out mid part : List ℕ} {m n : ℕ} → length mid ≡ length out → WritesNext a out b mid m
    → WritesNext b (drop m mid) c part n → WritesNext a out c (put_mid m (length mid - m) mid part) (m + n)
reads_more {a} {b} {c} {out} {mid} {part} {m} {n} same h k =
    let over : drop (length mid - m) (drop m mid) ≡ [] =
    drop_all (length mid - m) (drop m mid) (omega (arith, length-drop m mid)) in
    let none : put_mid m (length mid - m) mid part ≡ take m mid ++ part = cc (over, append-nil part) in
    record {
      bytes = h.bytes ++ k.bytes;
      wrote = rw none (writes_more same h.wrote k.wrote);
      body_is = cc (h.body_is, k.body_is, prepend_more h.bytes k.bytes (rest_body c));
    }
