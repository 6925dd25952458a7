-- Sections that are added group by group: their roles, and how many rows they have.
use Rattle.std.proofs.Common.{◌≡◌, ◌∙◌, ℕ, ◌+◌, List, ◌++◌, length, append_assoc, length-append, sym, ap, arith}
use Rattle.nested_itp.specs.NestedRefutations.Refutations.{Role}
use Rattle.nested_itp.specs.declared.triple_steps.sections.Section.{Section}
use Rattle.nested_itp.specs.TripleSteps.Sections.{roles_in, AddsRoles}
use Rattle.nested_itp.proofs.TripleSteps.RoleLaws.{adds_more, then_roles}

pub adds_both : (old now new : List Section) (a b : List Role) → AddsRoles old now a → AddsRoles now new b → AddsRoles old new (a ++ b)
adds_both old now new a b h k = record {
  plain = adds_more old now new h.plain k.plain;
  roles = λ g w t v. k.roles g w t v ∙ ap (λ (l : List Role). l ++ b) (h.roles g w t v) ∙ append_assoc (roles_in g w t v old) a b;
}

-- ---- behind roles that are known

pub then_two : (x a b old new : List Role) → old ≡ x → new ≡ old ++ (a ++ b) → new ≡ x ++ a ++ b
then_two x a b old new e f = then_roles x (a ++ b) old new e f ∙ sym (append_assoc x a b)

pub then_three : (x a b c old new : List Role) → old ≡ x → new ≡ old ++ (a ++ b ++ c) → new ≡ x ++ a ++ b ++ c
then_three x a b c old new e f =
    then_roles x (a ++ b ++ c) old new e f ∙ sym (append_assoc x (a ++ b) c) ∙ ap (λ (l : List Role). l ++ c) (sym (append_assoc x a b))

pub then_five : (x a b c d e old new : List Role) → old ≡ x → new ≡ old ++ (a ++ b ++ c ++ d ++ e) → new ≡ x ++ a ++ b ++ c ++ d ++ e
then_five x a b c d e old new h f =
    then_roles x (a ++ b ++ c ++ d ++ e) old new h f ∙ sym (append_assoc x (a ++ b ++ c ++ d) e) ∙
    ap (λ (l : List Role). l ++ e) (sym (append_assoc x (a ++ b ++ c) d) ∙
    ap (λ (l : List Role). l ++ d) (sym (append_assoc x (a ++ b) c) ∙ ap (λ (l : List Role). l ++ c) (sym (append_assoc x a b))))

-- ---- how many there are

pub three_counted : (a b c : List Role) (i j k : ℕ) → length a ≡ i → length b ≡ j → length c ≡ k → length (a ++ b ++ c) ≡ i + j + k
three_counted a b c i j k e f h =
    let p = length-append (a ++ b) c in
    let q = length-append a b in
    omega (arith, p, q, e, f, h)

pub five_counted : (a b c d e : List Role) (i j k m n : ℕ) → length a ≡ i → length b ≡ j → length c ≡ k → length d ≡ m → length e ≡ n →
    length (a ++ b ++ c ++ d ++ e) ≡ i + j + k + m + n
five_counted a b c d e i j k m n ea eb ec ed ee =
    let p = three_counted a b c i j k ea eb ec in
    let q = length-append (a ++ b ++ c ++ d) e in
    let r = length-append (a ++ b ++ c) d in
    omega (arith, p, q, r, ed, ee)
