-- The names of the generated program: they are names, and they differ.
use Rattle.std.proofs.Common.{◌≡◌, ℕ, zero, suc, ◌+◌, ◌≤◌, ◌<◌, ◌/◌, ◌%◌, Bool, true, false, not, ◌||◌, cond, List, [], ◌∷◌, ◌++◌, map, codes, Some, slice_get, refl, ap, sym, ◌∙◌, subst, arith}
use Rattle.std.specs.Prelude.{nat_le}
use Rattle.std.specs.List.{list_all, list_any, position_from}
use Rattle.std.specs.Fmt.{decimal}
use Rattle.std.specs.Str.{bytes_eq}
use Rattle.std.proofs.lemmas.Bool.{and_from, or_left, or_right}
use Rattle.std.proofs.lemmas.Bool.Decides.{nat_tests}
use Rattle.std.proofs.lemmas.Fmt.{decimal_by_steps, decimal_injective}
use Rattle.std.proofs.lemmas.List.Folds.{list_all-append}
use Rattle.std.proofs.lemmas.Slice.Eq.{bytes_eq-Decides}
use Rattle.boogie_tree.specs.declared.tree.Name.{Name}
use Rattle.boogie_tree.specs.Names.{is_digit, is_letter, is_name_mark, is_name_byte, is_name}
use Rattle.boogie_tree.specs.Tree.{Procedure}
use Rattle.typed_tree.specs.TypingRules.Rules.{all_differ}
use Rattle.automizer_top.specs.GeneratedProgram.Generated.{link_name, link, is_positive, chain, main_procedure}

-- ---- spelling

digit_named : (b : ℕ) → 48 ≤ b → b ≤ 57 → is_name_byte b ≡ true
digit_named b low high =
    let above : nat_le 48 b ≡ true = grind (arith, nat_tests) in
    let below : nat_le b 57 ≡ true = grind (arith, nat_tests) in
    or_left (is_letter b || is_digit b) (is_name_mark b) (or_right (is_letter b) (is_digit b) (and_from (nat_le 48 b) (nat_le b 57) above below))

abbrev AreNamed : ℕ → List ℕ → Type 0
AreNamed n ds = list_all is_name_byte ds ≡ true

one_digit : (n : ℕ) → n < 10 → AreNamed n ((48 + n) ∷ [])
one_digit n l = and_from (is_name_byte (48 + n)) true (digit_named (48 + n) (omega arith) (omega arith)) refl

more_digits : (n : ℕ) (ds : List ℕ) → 10 ≤ n → AreNamed (n / 10) ds → AreNamed n (ds ++ ((48 + n % 10) ∷ []))
more_digits n ds l h =
    list_all-append is_name_byte ds ((48 + n % 10) ∷ []) ∙ and_from (list_all is_name_byte ds) (list_all is_name_byte ((48 + n % 10) ∷ [])) h (one_digit (n % 10) (omega arith))

digits_named : (n : ℕ) → n ≤ 1000 → list_all is_name_byte (decimal n) ≡ true
digits_named n l = decimal_by_steps AreNamed one_digit more_digits n (omega arith)

pub link_named : (n : ℕ) → n ≤ 1000 → is_name (link_name n).text ≡ true
link_named n l = digits_named n l

-- ---- differing

false_or : (b : Bool) → (b ≡ true → ⊥) → b ≡ false
false_or true h = absurd (h refl)
false_or false h = refl

pub links_differ : (a b : ℕ) → a ≤ 1000 → b ≤ 1000 → (a ≡ b → ⊥) → bytes_eq (link_name a).text (link_name b).text ≡ false
links_differ a b x y n =
    false_or (bytes_eq (link_name a).text (link_name b).text)
    (λ e.
    let same : ◌≡◌ {A = List ℕ} (112 ∷ decimal a) (112 ∷ decimal b) = (bytes_eq-Decides (link_name a).text (link_name b).text).0 e in
    let digits : decimal a ≡ decimal b = cc in
    n (decimal_injective a b (omega arith) (omega arith) digits))

pub link_same : (a : ℕ) → bytes_eq (link_name a).text (link_name a).text ≡ true
link_same a = (bytes_eq-Decides (link_name a).text (link_name a).text).1 refl

abbrev pub names_of : List Procedure → List Name
names_of ps = map (λ p. p.name) ps

-- none of the chain has a smaller number
none_is : (k number rest : ℕ) → k < number → number + rest ≤ 1000 → list_any (λ y. bytes_eq (link_name k).text y.text) (names_of (chain number rest)) ≡ false
unfolding chain
none_is k number zero l m = refl
none_is k number (suc rest) l m =
    let here : bytes_eq (link_name k).text (link_name number).text ≡ false = links_differ k number (omega arith) (omega arith) (λ e. omega arith) in
    let behind = none_is k (number + 1) rest (omega arith) (omega arith) in
    or_false (bytes_eq (link_name k).text (link_name number).text) (list_any (λ y. bytes_eq (link_name k).text y.text) (names_of (chain (number + 1) rest))) here behind
  where
    or_false : (x y : Bool) → x ≡ false → y ≡ false → (x || y) ≡ false
    or_false x y e f = cc

none_is_main : (number rest : ℕ) → list_any (λ y. bytes_eq (codes "main") y.text) (names_of (chain number rest)) ≡ false
unfolding chain
none_is_main number zero = refl
none_is_main number (suc rest) = none_is_main (number + 1) rest

chain_differs : (number rest : ℕ) → number + rest ≤ 1000 → all_differ (λ x y. bytes_eq x.text y.text) (names_of (chain number rest)) ≡ true
unfolding chain
chain_differs number zero l = refl
chain_differs number (suc rest) l =
    and_from (not (list_any (λ y. bytes_eq (link_name number).text y.text) (names_of (chain (number + 1) rest)))) (all_differ (λ x y. bytes_eq x.text y.text) (names_of (chain (number + 1) rest)))
    (ap not (none_is number (number + 1) rest (omega arith) (omega arith))) (chain_differs (number + 1) rest (omega arith))

-- the procedures' names are a set
pub procedures_differ : (count : ℕ) → count ≤ 200 → all_differ (λ x y. bytes_eq x.text y.text) (names_of (main_procedure ∷ chain 1 count)) ≡ true
procedures_differ count l =
    and_from (not (list_any (λ y. bytes_eq (codes "main") y.text) (names_of (chain 1 count)))) (all_differ (λ x y. bytes_eq x.text y.text) (names_of (chain 1 count)))
    (ap not (none_is_main 1 count)) (chain_differs 1 count (omega arith))

-- ---- finding

found_from : (number rest i j k : ℕ) → number + rest ≤ 1000 → j < rest → k ≡ number + j → position_from (λ q. bytes_eq (link_name k).text q.name.text) i (chain number rest) ≡ Some (i + j)
unfolding chain
found_from number zero i j k m l e = absurd (omega arith)
found_from number (suc rest) i zero k m l e =
    let one : k ≡ number = omega arith in
    let here : bytes_eq (link_name k).text (link_name number).text ≡ true = subst (λ n. bytes_eq (link_name k).text (link_name n).text ≡ true) one (link_same k) in
    ap (λ b. cond b (Some i) (position_from (λ q. bytes_eq (link_name k).text q.name.text) (i + 1) (chain (number + 1) rest))) here ∙ ap Some (let z : i ≡ i + 0 = omega arith in z)
found_from number (suc rest) i (suc j) k m l e =
    let here : bytes_eq (link_name k).text (link_name number).text ≡ false = links_differ k number (omega arith) (omega arith) (λ same. omega arith) in
    ap (λ b. cond b (Some i) (position_from (λ q. bytes_eq (link_name k).text q.name.text) (i + 1) (chain (number + 1) rest))) here
    ∙ (found_from (number + 1) rest (i + 1) j k (omega arith) (omega arith) (omega arith) ∙ ap Some (let z : (i + 1) + j ≡ i + suc j = omega arith in z))

-- the number of a procedure of the chain
pub link_found : (count k : ℕ) → count ≤ 200 → 1 ≤ k → k ≤ count → position_from (λ q. bytes_eq (link_name k).text q.name.text) 0 (main_procedure ∷ chain 1 count) ≡ Some k
link_found count zero m low high = absurd (omega arith)
link_found count (suc j) m low high =
    let e : suc j ≡ 1 + j = omega arith in
    found_from 1 count 1 j (suc j) (omega arith) (omega arith) e ∙ ap Some (sym e)

-- it is a procedure of the chain
stands_from : (number rest j : ℕ) → j < rest → (b : Bool) × (slice_get (chain number rest) j ≡ Some (link b (number + j)))
unfolding chain
stands_from number zero j l = absurd (omega arith)
stands_from number (suc rest) zero l = (is_positive rest, ap (λ n. Some (link (is_positive rest) n)) (let z : number ≡ number + 0 = omega arith in z))
stands_from number (suc rest) (suc j) l =
    let w = stands_from (number + 1) rest j (omega arith) in
    (w.0, w.1 ∙ ap (λ n. Some (link w.0 n)) (let z : (number + 1) + j ≡ number + suc j = omega arith in z))

pub link_stands : (count j : ℕ) → j < count → (b : Bool) × (slice_get (main_procedure ∷ chain 1 count) (suc j) ≡ Some (link b (1 + j)))
link_stands count j l = stands_from 1 count j l
