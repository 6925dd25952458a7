-- What two differences accept, and words of both languages.
use Rattle.std.proofs.Common.{◌≡◌, ◌↔◌, List, Option, None, Some, sym, subst}
use Rattle.std.specs.Prelude.{MatchOption}
use Rattle.nwa_base.specs.declared.letters.Letter.{Letter}
use Rattle.nwa_base.specs.Automata.{Automaton}
use Rattle.nwa_base.specs.Acceptance.{Accepts}

-- what the first accepts and its words that the second does not accept are left out of
pub left_of : {F S O D : Type 0} → (O ↔ (F × (S → ⊥))) → (D ↔ (F × (O → ⊥))) → (D ↔ (F × ((S → ⊥) → ⊥)))
left_of o d = (
  λ x. let k = d.0 x in (k.0, λ n. k.1 (o.1 (k.0, n))),
  λ x. d.1 (x.0, λ y. x.1 ((o.0 y).1)),
)

-- no word of both is left where none is left
pub none_left : {F S D : Type 0} → (D ↔ (F × ((S → ⊥) → ⊥))) → (D → ⊥) → F → S → ⊥
none_left d n f s = n (d.1 (f, λ k. k s))

-- a word of both, or none where there is none
abbrev IsCommon : Automaton → Automaton → Option (List Letter) → Type 0
IsCommon p q o = MatchOption o ((w : List Letter) → Accepts p w → Accepts q w → ⊥) (λ w. Accepts p w × Accepts q w)

along : (p q : Automaton) (w : List Letter) → p ≡ q → Accepts p w → Accepts q w
along p q w e a = subst (λ (m : Automaton). Accepts m w) e a

pub common_word : (p q program reused : Automaton) (o : Option (List Letter)) (w : List Letter) → IsCommon p q o → p ≡ program → q ≡ reused → o ≡ Some w → Accepts program w × Accepts reused w
common_word p q program reused o w h e f k =
    let both : Accepts p w × Accepts q w = subst (IsCommon p q) k h in
    (along p program w e both.0, along q reused w f both.1)

pub no_common_word : (p q program reused : Automaton) (o : Option (List Letter)) → IsCommon p q o → p ≡ program → q ≡ reused → o ≡ None → (w : List Letter) → Accepts program w → Accepts reused w → ⊥
no_common_word p q program reused o h e f k w a b =
    let none : (v : List Letter) → Accepts p v → Accepts q v → ⊥ = subst (IsCommon p q) k h in
    none w (along program p w (sym e) a) (along reused q w (sym f) b)
