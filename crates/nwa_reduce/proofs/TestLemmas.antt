-- The test for equal marks.
use Rattle.std.proofs.Common.{◌≡◌, ◌∙◌, ◌&&◌, Bool, true, false, List, refl, sym, ap, eqb}
use Rattle.std.proofs.lemmas.Bool.{false≢true, eqb-true}
use Rattle.std.specs.List.{list_any}
use Rattle.nwa_base.specs.declared.letters.Letter.{Letter}
use Rattle.nwa_base.specs.Members.{Member}
use Rattle.nwa_base.proofs.LetterLemmas.{and_left, and_right, and_both, eqb-refl, same_letter-refl, sameb-same_kind}
use Rattle.nwa_base.proofs.EdgeLemmas.{letter_test}
use Rattle.nwa_base.proofs.MemberLemmas.{member_any}
use Rattle.nwa_reduce.specs.declared.marking.Mark.{Mark}
use Rattle.nwa_reduce.specs.declared.marking.Mark.TheVariants as marks
use Rattle.nwa_reduce.specs.contracts.marking.MarkPartialEq.TheImpl.{eq-value}
use Rattle.nwa_reduce.proofs.CollectLemmas.{letters_same}

-- the derived test
abbrev pub mark_test : Mark → Mark → Bool
mark_test a b = eq-value.it a b

letter_itself : (a : Letter) → letter_test a a ≡ true
letter_itself a = ap (λ k. eqb a.id a.id && (k && eqb a.call a.call)) (sameb-same_kind a.kind a.kind) ∙ same_letter-refl a

pub mark_itself : (x : Mark) → mark_test x x ≡ true
mark_itself marks.Final = refl
mark_itself (marks.Inside a r) = and_both _ _ (letter_itself a) (eqb-refl r)
mark_itself (marks.Call a r) = and_both _ _ (letter_itself a) (eqb-refl r)
mark_itself (marks.Back p a r) = and_both _ _ (eqb-refl p) (and_both _ _ (letter_itself a) (eqb-refl r))
mark_itself (marks.Before p a r) = and_both _ _ (eqb-refl p) (and_both _ _ (letter_itself a) (eqb-refl r))

pub same_mark : (x y : Mark) → mark_test x y ≡ true → x ≡ y
same_mark marks.Final marks.Final h = refl
same_mark marks.Final (marks.Inside b s) h = absurd (false≢true h)
same_mark marks.Final (marks.Call b s) h = absurd (false≢true h)
same_mark marks.Final (marks.Back q b s) h = absurd (false≢true h)
same_mark marks.Final (marks.Before q b s) h = absurd (false≢true h)
same_mark (marks.Inside a r) marks.Final h = absurd (false≢true h)
same_mark (marks.Inside a r) (marks.Inside b s) h =
    let e : a ≡ b = letters_same _ _ (and_left _ _ h) in
    let f : r ≡ s = eqb-true _ _ (and_right _ _ h) in
    λ n. marks.Inside (e n) (f n)
same_mark (marks.Inside a r) (marks.Call b s) h = absurd (false≢true h)
same_mark (marks.Inside a r) (marks.Back q b s) h = absurd (false≢true h)
same_mark (marks.Inside a r) (marks.Before q b s) h = absurd (false≢true h)
same_mark (marks.Call a r) marks.Final h = absurd (false≢true h)
same_mark (marks.Call a r) (marks.Inside b s) h = absurd (false≢true h)
same_mark (marks.Call a r) (marks.Call b s) h =
    let e : a ≡ b = letters_same _ _ (and_left _ _ h) in
    let f : r ≡ s = eqb-true _ _ (and_right _ _ h) in
    λ n. marks.Call (e n) (f n)
same_mark (marks.Call a r) (marks.Back q b s) h = absurd (false≢true h)
same_mark (marks.Call a r) (marks.Before q b s) h = absurd (false≢true h)
same_mark (marks.Back p a r) marks.Final h = absurd (false≢true h)
same_mark (marks.Back p a r) (marks.Inside b s) h = absurd (false≢true h)
same_mark (marks.Back p a r) (marks.Call b s) h = absurd (false≢true h)
same_mark (marks.Back p a r) (marks.Back q b s) h =
    let g : p ≡ q = eqb-true _ _ (and_left _ _ h) in
    let e : a ≡ b = letters_same _ _ (and_left _ _ (and_right _ _ h)) in
    let f : r ≡ s = eqb-true _ _ (and_right _ _ (and_right _ _ h)) in
    λ n. marks.Back (g n) (e n) (f n)
same_mark (marks.Back p a r) (marks.Before q b s) h = absurd (false≢true h)
same_mark (marks.Before p a r) marks.Final h = absurd (false≢true h)
same_mark (marks.Before p a r) (marks.Inside b s) h = absurd (false≢true h)
same_mark (marks.Before p a r) (marks.Call b s) h = absurd (false≢true h)
same_mark (marks.Before p a r) (marks.Back q b s) h = absurd (false≢true h)
same_mark (marks.Before p a r) (marks.Before q b s) h =
    let g : p ≡ q = eqb-true _ _ (and_left _ _ h) in
    let e : a ≡ b = letters_same _ _ (and_left _ _ (and_right _ _ h)) in
    let f : r ≡ s = eqb-true _ _ (and_right _ _ (and_right _ _ h)) in
    λ n. marks.Before (g n) (e n) (f n)

pub mark_absent : (keys : List Mark) (x : Mark) → list_any (mark_test x) keys ≡ false → Member keys x → ⊥
mark_absent keys x h m =
    false≢true (sym h ∙ member_any (λ (y z : Mark). mark_test z y) keys x (λ y e. ap (mark_test x) e ∙ mark_itself x) m)
