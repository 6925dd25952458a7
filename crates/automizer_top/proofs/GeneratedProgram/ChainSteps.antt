-- The procedures of the chain, made one after the other.
use Rattle.std.proofs.Common.{◌≡◌, ℕ, zero, suc, ◌+◌, ◌-◌, ◌≤◌, ◌<◌, Bool, true, false, List, [], ◌∷◌, ◌++◌, map, refl, ap, sym, ◌∙◌, arith, append_assoc}
use Rattle.std.specs.Prelude.{nat_lt}
use Rattle.std.proofs.lemmas.Bool.Decides.{nat_tests}
use Rattle.std.proofs.lemmas.List.{map-append, append-nil}
use Rattle.boogie_tree.specs.declared.tree.Decl.{Decl}
use Rattle.boogie_tree.specs.Tree.{Declaration, Declares}
use Rattle.boogie_tree.specs.View.{declaration}
use Rattle.automizer_top.specs.GeneratedProgram.Generated.{link, is_positive, chain, generated}

is_less : (count number more : ℕ) → count ≡ number + more → is_positive more ≡ nat_lt number count
is_less count number zero e = let f : nat_lt number count ≡ false = grind (arith, nat_tests) in sym f
is_less count number (suc more) e = let f : nat_lt number count ≡ true = grind (arith, nat_tests) in sym f

chain_of : (number more : ℕ) → chain number (suc more) ≡ link (is_positive more) number ∷ chain (number + 1) more
unfolding chain
chain_of number more = refl

none_of : (number : ℕ) → chain number 0 ≡ []
unfolding chain
none_of number = refl

first_link : (count number : ℕ) → number < count + 1 → chain number (count + 1 - number) ≡ link (nat_lt number count) number ∷ chain (number + 1) (count + 1 - (number + 1))
first_link count number l =
    let more : ℕ = count - number in
    let whole : count + 1 - number ≡ suc more = omega arith in
    let rest : more ≡ count + 1 - (number + 1) = omega arith in
    ap (chain number) whole ∙ (chain_of number more ∙ (ap (λ (b : Bool). link b number ∷ chain (number + 1) more) (is_less count number more (omega arith)) ∙ ap (λ (n : ℕ). link (nat_lt number count) number ∷ chain (number + 1) n) rest))

-- one procedure more
pub link_added : (front after : List Decl) (d : Decl) (count number : ℕ) → number < count + 1 → map declaration front ++ map Declares (chain number (count + 1 - number)) ≡ generated count →
    after ≡ front ++ (d ∷ []) → declaration d ≡ Declares (link (nat_lt number count) number) → map declaration after ++ map Declares (chain (number + 1) (count + 1 - (number + 1))) ≡ generated count
link_added front after d count number l inv grown made =
    let rest : List Declaration = map Declares (chain (number + 1) (count + 1 - (number + 1))) in
    let front_then : map declaration after ≡ map declaration front ++ (declaration d ∷ []) = ap (map declaration) grown ∙ map-append declaration front (d ∷ []) in
    let split : map Declares (chain number (count + 1 - number)) ≡ Declares (link (nat_lt number count) number) ∷ rest = ap (map Declares) (first_link count number l) in
    ap (λ (xs : List Declaration). xs ++ rest) front_then
    ∙ (append_assoc (map declaration front) (declaration d ∷ []) rest ∙ (ap (λ (x : Declaration). map declaration front ++ (x ∷ rest)) made ∙ (sym (ap (λ (xs : List Declaration). map declaration front ++ xs) split) ∙ inv)))

-- all procedures
pub chain_ended : (items : List Decl) (count number : ℕ) → count + 1 ≤ number → map declaration items ++ map Declares (chain number (count + 1 - number)) ≡ generated count → map declaration items ≡ generated count
chain_ended items count number l inv =
    let none : count + 1 - number ≡ 0 = omega arith in
    let ended : map Declares (chain number (count + 1 - number)) ≡ [] = ap (λ (n : ℕ). map Declares (chain number n)) none ∙ ap (map Declares) (none_of number) in
    sym (append-nil (map declaration items)) ∙ (sym (ap (λ (xs : List Declaration). map declaration items ++ xs) ended) ∙ inv)
