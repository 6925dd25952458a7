-- Loops that write one text after another.
use Rattle.std.proofs.Common.{◌≡◌, ℕ, Bool, true, ◌&&◌, ◌+◌, ◌<◌, ◌≤◌, List, [], ◌∷◌, ◌++◌, length, map, drop, get_or, codes, refl, sym, ap, ◌∙◌, append_assoc}
use Rattle.std.specs.List.{flat_map, list_all}
use Rattle.std.proofs.lemmas.List.{append-nil, drop_more, drop_all}
use Rattle.boogie_tree.specs.Names.{is_spelled}
use Rattle.proof_form.specs.Numerals.{is_numeral}
use Rattle.proof_form.specs.Trees.{is_tree}
use Rattle.proof_form.specs.Predicates as predicates
use Rattle.proof_form.specs.Predicates.{PredicateNode}
use Rattle.proof_form.specs.Refutations as refutations
use Rattle.proof_form.specs.Refutations.{RefutationNode, is_refutation, refutation_text}
use Rattle.proof_form.specs.declared.numerals.Numeral.{Numeral}
use Rattle.proof_form.specs.Lines.{Pred, is_pred, Triple, inside_triple, call_triple, back_triple, is_triple, spaced, triple_text}
use Rattle.proof_form.proofs.RunLaws.{both_hold}

module _ {C : Type 0} (text : C → List ℕ) where
  -- what is written, and the texts of all from the place i on
  abbrev pub with_rest : List ℕ → List C → ℕ → List ℕ
  with_rest new xs i = new ++ flat_map text (drop i xs)

  next_text : (xs : List C) (i : ℕ) (x : C) → i < length xs → x ≡ get_or xs i x → flat_map text (drop i xs) ≡ text x ++ flat_map text (drop (i + 1) xs)
  next_text xs i x l e = ap (λ ys. flat_map text ys) (drop_more xs i x l) ∙ ap (λ y. text y ++ flat_map text (drop (i + 1) xs)) (sym e)

  -- one more is written
  pub one_written : (xs : List C) (i : ℕ) (x : C) (new more all : List ℕ) → i < length xs → x ≡ get_or xs i x → more ≡ new ++ text x → with_rest new xs i ≡ all → with_rest more xs (i + 1) ≡ all
  one_written xs i x new more all l e w h =
      ap (λ t. t ++ flat_map text (drop (i + 1) xs)) w ∙ append_assoc new (text x) (flat_map text (drop (i + 1) xs)) ∙ ap (λ t. new ++ t) (sym (next_text xs i x l e)) ∙ h

  -- all are written
  pub all_written : (xs : List C) (i : ℕ) (new all : List ℕ) → length xs ≤ i → with_rest new xs i ≡ all → new ≡ all
  all_written xs i new all l h = sym (append-nil new) ∙ ap (λ ys. new ++ flat_map text ys) (sym (drop_all i xs l)) ∙ h

-- texts of what contracts see
pub viewed_texts : {C X : Type 0} (view : C → X) (text : X → List ℕ) (xs : List C) → flat_map (λ x. text (view x)) xs ≡ flat_map text (map view xs)
viewed_texts view text [] = refl
viewed_texts view text (x ∷ xs) = ap (λ t. text (view x) ++ t) (viewed_texts view text xs)

-- a predicate in the grammar is one whole tree, and so is a refutation
pub whole_predicate : (p : Pred) (nodes : List PredicateNode) → nodes ≡ p.nodes → is_pred p ≡ true → is_tree predicates.parts nodes ≡ true
whole_predicate p nodes e h =
    let a = both_hold (is_spelled p.proc) _ h in
    let b = both_hold (list_all predicates.is_predicate_node p.nodes) _ a.1 in
    let c = both_hold (is_tree predicates.parts p.nodes) _ b.1 in rw e c.0

pub whole_refutation : (proof nodes : List RefutationNode) → nodes ≡ proof → is_refutation proof ≡ true → is_tree refutations.refutation_parts nodes ≡ true
whole_refutation proof nodes e h = let a = both_hold (list_all refutations.is_refutation_node proof) _ h in rw e a.1

pub proof_of_three : (a b c d : Bool) → (a && (b && (c && d))) ≡ true → d ≡ true
proof_of_three a b c d h = (both_hold c d (both_hold b (c && d) (both_hold a (b && (c && d)) h).1).1).1

pub proof_of_four : (a b c d e : Bool) → (a && (b && (c && (d && e)))) ≡ true → e ≡ true
proof_of_four a b c d e h = proof_of_three b c d e (both_hold a (b && (c && (d && e))) h).1

-- texts written one after another
pub written_after : (old word more out all : List ℕ) → out ≡ old ++ word → all ≡ out ++ more → all ≡ old ++ (word ++ more)
written_after old word more out all e f = f ∙ ap (λ o. o ++ more) e ∙ append_assoc old word more

-- the refutation of a triple in the grammar
pub whole_inside : (t : Triple) (from letter to : Numeral) (proof nodes : List RefutationNode) → t ≡ inside_triple from letter to proof → nodes ≡ proof → is_triple t ≡ true → is_tree refutations.refutation_parts nodes ≡ true
whole_inside t from letter to proof nodes e f h = whole_refutation proof nodes f (proof_of_three (is_numeral from) (is_numeral letter) (is_numeral to) (is_refutation proof) (ap is_triple (sym e) ∙ h))

pub whole_call : (t : Triple) (from letter to : Numeral) (proof nodes : List RefutationNode) → t ≡ call_triple from letter to proof → nodes ≡ proof → is_triple t ≡ true → is_tree refutations.refutation_parts nodes ≡ true
whole_call t from letter to proof nodes e f h = whole_refutation proof nodes f (proof_of_three (is_numeral from) (is_numeral letter) (is_numeral to) (is_refutation proof) (ap is_triple (sym e) ∙ h))

pub whole_back : (t : Triple) (exit before letter to : Numeral) (proof nodes : List RefutationNode) → t ≡ back_triple exit before letter to proof → nodes ≡ proof → is_triple t ≡ true → is_tree refutations.refutation_parts nodes ≡ true
whole_back t exit before letter to proof nodes e f h = whole_refutation proof nodes f (proof_of_four (is_numeral exit) (is_numeral before) (is_numeral letter) (is_numeral to) (is_refutation proof) (ap is_triple (sym e) ∙ h))

-- the line of a return
pub back_written : (t : Triple) (exit before letter to : Numeral) (proof nodes : List RefutationNode) (old a b all : List ℕ) → t ≡ back_triple exit before letter to proof → nodes ≡ proof
    → a ≡ old ++ codes "triple ret" → b ≡ a ++ spaced exit → all ≡ b ++ ([] ++ (spaced before ++ (spaced letter ++ (spaced to ++ refutation_text nodes)))) → all ≡ old ++ triple_text t
back_written t exit before letter to proof nodes old a b all e f g h k =
    let rest = spaced before ++ (spaced letter ++ (spaced to ++ refutation_text nodes)) in
    let one : all ≡ a ++ (spaced exit ++ rest) = written_after a (spaced exit) rest b all h k in
    let two : all ≡ old ++ (codes "triple ret" ++ (spaced exit ++ rest)) = written_after old (codes "triple ret") (spaced exit ++ rest) a all g one in
    two ∙ ap (λ ns. old ++ triple_text (back_triple exit before letter to ns)) f ∙ ap (λ u. old ++ triple_text u) (sym e)
