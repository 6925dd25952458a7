-- The nodes of refutations: what spells them is of the grammar, names them again, and is one whole tree.
use Rattle.std.proofs.Common.{◌≡◌, ◌∙◌, ◌≢◌, ℕ, zero, suc, ◌+◌, ◌^◌, ◌<◌, true, List, [], ◌∷◌, ◌++◌, Option, None, Some, refl, sym, ap, arith}
use Rattle.std.specs.Prelude.{ℤ, pos, ◌<ℤ◌, map, nat_le}
use Rattle.std.specs.List.{AllByRecursion}
use Rattle.std.specs.Option.{option_map}
use Rattle.std.proofs.lemmas.Bool.{le-leb, eqb-true, false≢true}
use Rattle.std.proofs.lemmas.Int.{ints}
use Rattle.math_facts.specs.Fits.{Fits}
use Rattle.lin_rows.specs.declared.systems.System.{System}
use Rattle.lin_rows.specs.Rows.{LinearRow}
use Rattle.lin_rows.specs.Combinations.{Contradicts}
use Rattle.farkas_check.specs.Nodes as nodes
use Rattle.farkas_check.specs.Nodes.{PlainNode, branches, are_trees}
use Rattle.farkas_check.specs.Refutes.{Goal, Refute, CasesRefute, goal_with_member, with_row, at_most, above}
use Rattle.proof_form.specs.declared.numerals.Numeral.{Numeral}
use Rattle.proof_form.specs.Trees.{tree_count, have_parts}
use Rattle.proof_form.specs.Refutations as form
use Rattle.proof_form.specs.Refutations.{RefutationNode, leaf, cut, cases, refutation_parts, is_part, is_some_list, is_refutation}
use Rattle.proof_names.specs.Numbers.{short_in, number_in}
use Rattle.proof_names.specs.Options.{both, all_some}
use Rattle.proof_names.specs.Refutations.{part_fits, refutation_is_named, named_part, cut_of, node_of, refutation_of}
use Rattle.proof_names.specs.ProofSpell.Correspond.{Correspond}
use Rattle.proof_names.specs.ProofSpell.Drafts.{IsWithin}
use Rattle.proof_names.specs.ProofSpell.Spelled.{Writes}
use Rattle.proof_names.specs.ProofSpell.Nodes.{HasNumbers, SpellsPart, SpellsBranch}
use Rattle.proof_names.proofs.ProofSpell.NumeralLaws.{writes_short, writes_number}
use Rattle.proof_names.proofs.ProofSpell.CorrespondLaws.{all_pass, all_values}

-- ---- nodes

row_number : (m : Numeral) (k : ℕ) → Writes m (pos k) → k < 2 ^ 32 → number_in m ≡ Some (pos k)
row_number m k w l = let f : k < 2 ^ 127 = omega arith in writes_number m (pos k) w f

pub part_spelled : (a b : Numeral) (p : ℕ × ℤ) → p.0 < 2 ^ 32 → Fits p.1 → Writes a (pos p.0) → Writes b p.1 → SpellsPart (a, b) p
part_spelled a b p l f v w = record {
  valid = rw (v.valid, w.valid) refl;
  fits = rw (row_number a p.0 v l, writes_number b p.1 w f) refl;
  named = ap (λ o. both o (number_in b)) (writes_short a p.0 v l) ∙ ap (both (Some p.0)) (writes_number b p.1 w f);
}

some_parts : (ps : List (Numeral × Numeral)) (qs : List (ℕ × ℤ)) → Correspond SpellsPart ps qs → qs ≢ [] → is_some_list ps ≡ true
some_parts [] [] h n = absurd (n refl)
some_parts [] (q ∷ qs) h n = absurd h
some_parts (p ∷ ps) qs h n = refl

pub leaf_spelled : (ps : List (Numeral × Numeral)) (qs : List (ℕ × ℤ)) → qs ≢ [] → Correspond SpellsPart ps qs → SpellsBranch (leaf ps) (nodes.leaf qs)
leaf_spelled ps qs n c = record {
  valid = rw (some_parts ps qs c n, all_pass SpellsPart is_part (λ x y h. h.valid) ps qs c) refl;
  named = ap (option_map nodes.leaf) (all_values SpellsPart named_part (λ x y h. h.named) ps qs c);
  fits = λ columns t. all_pass SpellsPart part_fits (λ x y h. h.fits) ps qs c;
}

-- ---- the list of the nodes

leaf_branches : (o : Option (List (ℕ × ℤ))) (m : PlainNode) → option_map nodes.leaf o ≡ Some m → branches m ≡ 0
leaf_branches None m e = absurd (cc)
leaf_branches (Some ps) m e = let k : nodes.leaf ps ≡ m = cc in ap branches (sym k)

cut_branches : (o : Option (ℕ × ℤ)) (m : PlainNode) → cut_of o ≡ Some m → branches m ≡ 2
cut_branches None m e = absurd (cc)
cut_branches (Some c) m e = let k : nodes.cut c.0 c.1 ≡ m = cc in ap branches (sym k)

-- a node has as many trees below it as its line says
branches_are : (n : RefutationNode) (m : PlainNode) → node_of n ≡ Some m → branches m ≡ refutation_parts n
branches_are (leaf ps) m e = leaf_branches (all_some (map named_part ps)) m e
branches_are (cut c k) m e = cut_branches (both (short_in c) (number_in k)) m e
branches_are (cases n) m e = let k : nodes.cases n ≡ m = cc in ap branches (sym k)

record Counts (ns : List RefutationNode) (k : ℕ) : Type 0 where
  whole : have_parts refutation_parts ns ≡ true
  counted : tree_count refutation_parts ns ≡ k

are_counted : (ns : List RefutationNode) (ms : List PlainNode) (k : ℕ) → Correspond SpellsBranch ns ms → are_trees k ms ≡ true → Counts ns k
are_counted [] [] k c h = record { whole = refl; counted = sym (eqb-true k 0 h) }
are_counted [] (m ∷ ms) k c h = absurd c
are_counted (n ∷ ns) [] k c h = absurd c
are_counted (n ∷ ns) (m ∷ ms) zero c h = absurd (false≢true h)
are_counted (n ∷ ns) (m ∷ ms) (suc k) c h =
    let r = are_counted ns ms (branches m + k) c.1 h in
    let b : branches m ≡ refutation_parts n = branches_are n m c.0.named in
    let t : tree_count refutation_parts ns ≡ branches m + k = r.counted in
    let l : nat_le (refutation_parts n) (tree_count refutation_parts ns) ≡ true = le-leb (refutation_parts n) (tree_count refutation_parts ns) (omega (arith, b, t)) in
    record { whole = rw (r.whole, l) refl; counted = omega (arith, b, t) }

pub refutation_valid : (ns : List RefutationNode) (ms : List PlainNode) → Correspond SpellsBranch ns ms → nodes.is_tree ms ≡ true → is_refutation ns ≡ true
refutation_valid ns ms c h =
    let k = are_counted ns ms 1 c h in
    rw (all_pass SpellsBranch form.is_refutation_node (λ x y b. b.valid) ns ms c, k.whole, k.counted) refl

pub refutation_named : (ns : List RefutationNode) (ms : List PlainNode) → Correspond SpellsBranch ns ms → refutation_of ns ≡ Some ms
refutation_named ns ms c = all_values SpellsBranch node_of (λ x y b. b.named) ns ms c

pub refutation_fits : (columns : ℕ) (ns : List RefutationNode) (ms : List PlainNode) → Correspond SpellsBranch ns ms → AllByRecursion (IsWithin columns) ms → refutation_is_named columns ns ≡ true
refutation_fits columns [] [] c h = refl
refutation_fits columns [] (m ∷ ms) c h = refl
refutation_fits columns (n ∷ ns) [] c h = absurd c
refutation_fits columns (n ∷ ns) (m ∷ ms) c h = rw (c.0.fits columns h.0, refutation_fits columns ns ms c.1 h.1) refl

-- ---- a refutation has numbers that can be written

not_below : pos 0 <ℤ pos 0 → ⊥
not_below l = omega (arith, ints)

leaf_has : (rows : List LinearRow) (parts : List (ℕ × ℤ)) → Contradicts rows parts → parts ≢ []
leaf_has rows [] c = λ e. not_below c.bound_negative
leaf_has rows (p ∷ ps) c = λ e. absurd (cc)

-- what refutes has a part in each leaf, and its multipliers and the numbers of its cuts fit
pub have_numbers : (ns : List PlainNode) (goals : List Goal) → Refute ns goals → AllByRecursion HasNumbers ns
have_numbers [] goals r = tt
have_numbers (n ∷ ns) [] r = absurd r
have_numbers (nodes.leaf parts ∷ ns) (g ∷ gs) r = ((leaf_has g.rows parts r.0, r.0.multipliers_fit), have_numbers ns gs r.1)
have_numbers (nodes.cut c k ∷ ns) (g ∷ gs) r = (r.0, have_numbers ns (with_row g (at_most c k) ∷ with_row g (above c k) ∷ gs) r.2)
have_numbers (nodes.cases n ∷ ns) (g ∷ gs) r = by_groups g.groups (λ goals h. have_numbers ns goals h) r
  where
    by_groups : (groups : List (List System)) → ((goals : List Goal) → Refute ns goals → AllByRecursion HasNumbers ns) → CasesRefute (λ goals. Refute ns (goals ++ gs)) n g.rows groups →
        AllByRecursion HasNumbers (nodes.cases n ∷ ns)
    by_groups [] f r = absurd r
    by_groups (members ∷ groups) f r = (tt, f (map (goal_with_member (record { rows = g.rows; groups = groups })) members ++ gs) r.1)
