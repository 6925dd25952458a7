-- No line of an annotation has a newline in it.
use Rattle.std.proofs.Common.{◌≡◌, ℕ, zero, suc, ◌^◌, ◌<◌, Bool, true, not, nat_le, List, [], ◌∷◌, ◌++◌, take, drop, refl, arith}
use Rattle.std.specs.List.{AllByRecursion, concat, flat_map, list_all}
use Rattle.std.specs.Fmt.{decimal}
use Rattle.std.specs.Char.{digit_value}
use Rattle.std.specs.Str.Parse.{AllDigits}
use Rattle.std.proofs.lemmas.Bool.Decides.{nat_tests}
use Rattle.std.proofs.lemmas.Fmt.{decimal_is_IsNumeral}
use Rattle.boogie_tree.specs.Names.{is_spelled}
use Rattle.proof_form.specs.declared.numerals.Numeral.{Numeral}
use Rattle.proof_form.specs.declared.lines.StepLine.{StepLine}
use Rattle.proof_form.specs.declared.lines.StepLine.TheVariants as steps
use Rattle.proof_form.specs.Numerals.{is_numeral, is_zero_text, numeral_text}
use Rattle.proof_form.specs.Reading.{is_word_byte, is_number_byte}
use Rattle.proof_form.specs.Trees.{texts, tree_text}
use Rattle.proof_form.specs.Predicates as predicates
use Rattle.proof_form.specs.Predicates.{PredicateNode, is_predicate, predicate_text, term_text, is_term}
use Rattle.proof_form.specs.Refutations as refutations
use Rattle.proof_form.specs.Refutations.{RefutationNode, is_refutation, refutation_text, part_text, is_part}
use Rattle.proof_form.specs.Lines.{Pred, Triple, inside_triple, call_triple, back_triple, Node, spaced, pred_text, triple_text, node_text, step_text, is_pred, is_triple, is_named, is_node, is_step}
use Rattle.proof_form.proofs.RunLaws.{both_hold, all_weaker, numeral_bytes, procedure_is_word, column_is_word}

-- a byte that is no control character
abbrev pub is_inside : ℕ → Bool
is_inside b = nat_le 32 b

abbrev pub Plain : List ℕ → Type 0
Plain bs = list_all is_inside bs ≡ true

pub plain_append : (a b : List ℕ) → Plain a → Plain b → Plain (a ++ b)
plain_append [] b h k = k
plain_append (x ∷ a) b h k = let j = both_hold (is_inside x) _ h in rw (j.0, plain_append a b j.1 k) refl

number_byte : (b : ℕ) → is_number_byte b ≡ true → is_inside b ≡ true
number_byte b h = grind (arith, nat_tests)

word_byte : (b : ℕ) → is_word_byte b ≡ true → is_inside b ≡ true
word_byte b h = grind (arith, nat_tests)

plain_numeral : (n : Numeral) → is_numeral n ≡ true → Plain (numeral_text n)
plain_numeral n h = all_weaker is_number_byte is_inside number_byte (numeral_text n) (numeral_bytes n.negative n.digits h)

plain_digits : (ds : List ℕ) → AllDigits 10 ds → Plain ds
plain_digits [] h = refl
plain_digits (d ∷ ds) h = rw (here d h.0, plain_digits ds h.1) refl
  where
    here : (d : ℕ) → digit_value d < 10 → is_inside d ≡ true
    here d low = grind (arith, nat_tests)

pub plain_decimal : (n : ℕ) → n < 2 ^ 64 → Plain (decimal n)
plain_decimal n small = plain_digits (decimal n) (decimal_is_IsNumeral n small).0.1

pub plain_spaced : (n : Numeral) → is_numeral n ≡ true → Plain (spaced n)
plain_spaced n h = plain_numeral n h

plain_all : {A : Type 0} (text : A → List ℕ) (test : A → Bool) → ((x : A) → test x ≡ true → Plain (text x)) → (xs : List A) → list_all test xs ≡ true → Plain (flat_map text xs)
plain_all text test f [] h = refl
plain_all text test f (x ∷ xs) h = let k = both_hold (test x) _ h in plain_append (text x) (flat_map text xs) (f x k.0) (plain_all text test f xs k.1)

-- Trees

plain_concat : (ts : List (List ℕ)) → AllByRecursion Plain ts → Plain (concat ts)
plain_concat [] h = refl
plain_concat (t ∷ ts) h = plain_append t (concat ts) h.0 (plain_concat ts h.1)

plain_take : (k : ℕ) (ts : List (List ℕ)) → AllByRecursion Plain ts → AllByRecursion Plain (take k ts)
plain_take zero ts h = tt
plain_take (suc k) [] h = tt
plain_take (suc k) (t ∷ ts) h = (h.0, plain_take k ts h.1)

plain_drop : (k : ℕ) (ts : List (List ℕ)) → AllByRecursion Plain ts → AllByRecursion Plain (drop k ts)
plain_drop zero ts h = h
plain_drop (suc k) [] h = tt
plain_drop (suc k) (t ∷ ts) h = plain_drop k ts h.1

module _ {X : Type 0} (head : X → List ℕ) (parts : X → ℕ) (test : X → Bool) (plain_head : (n : X) → test n ≡ true → Plain (head n)) where
  plain_texts : (ns : List X) → list_all test ns ≡ true → AllByRecursion Plain (texts head parts ns)
  plain_texts [] h = tt
  plain_texts (n ∷ ns) h =
      let k = both_hold (test n) _ h in
      let more = plain_texts ns k.1 in
      let inner = concat (take (parts n) (texts head parts ns)) in
      (plain_append (head n) (inner ++ 41 ∷ []) (plain_head n k.0) (plain_append inner (41 ∷ []) (plain_concat _ (plain_take (parts n) _ more)) refl), plain_drop (parts n) _ more)

  plain_tree : (ns : List X) → list_all test ns ≡ true → Plain (tree_text head parts ns)
  plain_tree ns h = plain_concat (texts head parts ns) (plain_texts ns h)

plain_part : (p : Numeral × Numeral) → is_part p ≡ true → Plain (part_text p)
plain_part p h = let k = both_hold (is_numeral p.0) _ h in plain_append (numeral_text p.0) (58 ∷ numeral_text p.1) (plain_numeral p.0 k.0) (plain_numeral p.1 k.1)

refutation_head : (n : RefutationNode) → refutations.is_refutation_node n ≡ true → Plain (refutations.refutation_head n)
refutation_head (refutations.leaf ps) h = plain_all part_text is_part plain_part ps (both_hold (refutations.is_some_list ps) _ h).1
refutation_head (refutations.cut c k) h = let b = both_hold (is_numeral c) _ h in plain_append (numeral_text c) (32 ∷ numeral_text k) (plain_numeral c b.0) (plain_numeral k b.1)
refutation_head (refutations.cases n) h = refl

pub plain_refutation : (ns : List RefutationNode) → is_refutation ns ≡ true → Plain (refutation_text ns)
plain_refutation ns h = plain_tree refutations.refutation_head refutations.refutation_parts refutations.is_refutation_node refutation_head ns (both_hold (list_all refutations.is_refutation_node ns) _ h).0

plain_term : (t : Numeral × List ℕ) → is_term t ≡ true → Plain (term_text t)
plain_term t h =
    let k = both_hold (is_numeral t.0) _ h in
    let j = both_hold (not (is_zero_text t.0.digits)) _ k.1 in
    plain_append (numeral_text t.0) (32 ∷ t.1) (plain_numeral t.0 k.0) (all_weaker is_word_byte is_inside word_byte t.1 (column_is_word t.1 j.1))

predicate_head : (n : PredicateNode) → predicates.is_predicate_node n ≡ true → Plain (predicates.head n)
predicate_head (predicates.atom b ts) h =
    let k = both_hold (is_numeral b) _ h in
    plain_append (numeral_text b) (flat_map term_text ts) (plain_numeral b k.0) (plain_all term_text is_term plain_term ts (both_hold (refutations.is_some_list ts) _ k.1).1)
predicate_head (predicates.and_of n) h = refl
predicate_head (predicates.or_of n) h = refl

pub plain_predicate : (ns : List PredicateNode) → is_predicate ns ≡ true → Plain (predicate_text ns)
plain_predicate ns h = plain_tree predicates.head predicates.parts predicates.is_predicate_node predicate_head ns (both_hold (list_all predicates.is_predicate_node ns) _ h).0

-- Lines

pub plain_pred : (k : ℕ) (p : Pred) → k < 2 ^ 64 → is_pred p ≡ true → Plain (pred_text k p)
plain_pred k p small h =
    let b = both_hold (is_spelled p.proc) _ h in
    plain_append (decimal k) (32 ∷ (p.proc ++ predicate_text p.nodes)) (plain_decimal k small)
    (plain_append p.proc (predicate_text p.nodes) (all_weaker is_word_byte is_inside word_byte p.proc (procedure_is_word p.proc b.0)) (plain_predicate p.nodes b.1))

plain_three : (a b c : Numeral) (rest : List ℕ) → is_numeral a ≡ true → is_numeral b ≡ true → is_numeral c ≡ true → Plain rest → Plain (spaced a ++ (spaced b ++ (spaced c ++ rest)))
plain_three a b c rest f g h k =
    plain_append (spaced a) (spaced b ++ (spaced c ++ rest)) (plain_spaced a f) (plain_append (spaced b) (spaced c ++ rest) (plain_spaced b g) (plain_append (spaced c) rest (plain_spaced c h) k))

pub plain_triple : (t : Triple) → is_triple t ≡ true → Plain (triple_text t)
plain_triple (inside_triple a b c ns) h =
    let x = both_hold (is_numeral a) _ h in
    let y = both_hold (is_numeral b) _ x.1 in
    let z = both_hold (is_numeral c) _ y.1 in plain_three a b c (refutation_text ns) x.0 y.0 z.0 (plain_refutation ns z.1)
plain_triple (call_triple a b c ns) h =
    let x = both_hold (is_numeral a) _ h in
    let y = both_hold (is_numeral b) _ x.1 in
    let z = both_hold (is_numeral c) _ y.1 in plain_three a b c (refutation_text ns) x.0 y.0 z.0 (plain_refutation ns z.1)
plain_triple (back_triple d a b c ns) h =
    let w = both_hold (is_numeral d) _ h in
    let x = both_hold (is_numeral a) _ w.1 in
    let y = both_hold (is_numeral b) _ x.1 in
    let z = both_hold (is_numeral c) _ y.1 in
    plain_append (spaced d) (spaced a ++ (spaced b ++ (spaced c ++ refutation_text ns))) (plain_spaced d w.0) (plain_three a b c (refutation_text ns) x.0 y.0 z.0 (plain_refutation ns z.1))

pub plain_node : (n : ℕ) (x : Node) → n < 2 ^ 64 → is_node x ≡ true → Plain (node_text n x)
plain_node n x small h =
    let a = both_hold (is_numeral x.place) _ h in
    let b = both_hold (is_numeral x.entry) _ a.1 in
    let c = both_hold (list_all is_named x.preds) _ b.1 in
    plain_append (decimal n) (spaced x.place ++ (spaced x.entry ++ flat_map spaced x.preds)) (plain_decimal n small)
    (plain_append (spaced x.place) (spaced x.entry ++ flat_map spaced x.preds) (plain_spaced x.place a.0)
    (plain_append (spaced x.entry) (flat_map spaced x.preds) (plain_spaced x.entry b.0)
    (plain_all spaced is_named (λ k named. plain_spaced k (both_hold (is_numeral k) _ named).0) x.preds c.0)))

plain_last : (a b c : Numeral) → is_numeral a ≡ true → is_numeral b ≡ true → is_numeral c ≡ true → Plain (spaced a ++ (spaced b ++ spaced c))
plain_last a b c f g h = plain_append (spaced a) (spaced b ++ spaced c) (plain_spaced a f) (plain_append (spaced b) (spaced c) (plain_spaced b g) (plain_spaced c h))

pub plain_step : (s : StepLine) → is_step s ≡ true → Plain (step_text s)
plain_step (steps.Step a b c) h =
    let x = both_hold (is_numeral a) _ h in
    let y = both_hold (is_numeral b) _ x.1 in plain_last a b c x.0 y.0 y.1
plain_step (steps.Back d a b c) h =
    let w = both_hold (is_numeral d) _ h in
    let x = both_hold (is_numeral a) _ w.1 in
    let y = both_hold (is_numeral b) _ x.1 in
    plain_append (spaced d) (spaced a ++ (spaced b ++ spaced c)) (plain_spaced d w.0) (plain_last a b c x.0 y.0 y.1)
