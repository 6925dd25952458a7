-- The lines of triples, nodes and steps have their numbers.
use Rattle.std.proofs.Common.{◌≡◌, ◌≢◌, ℕ, zero, suc, ◌+◌, ◌<◌, ◌≤◌, true, List, [], ◌∷◌, Option, Some, refl, ap, arith}
use Rattle.std.specs.Prelude.{pos, map, ◌<ℤ◌}
use Rattle.std.specs.List.{list_all}
use Rattle.std.specs.Option.{option_map}
use Rattle.std.proofs.lemmas.Int.{ints}
use Rattle.farkas_check.specs.Nodes.{PlainNode}
use Rattle.farkas_check.specs.Nodes as nodes
use Rattle.proof_form.specs.declared.numerals.Numeral.{Numeral}
use Rattle.proof_form.specs.declared.refutations.RNode.{RNode}
use Rattle.proof_form.specs.Numerals.{numeral_is_below}
use Rattle.proof_form.specs.NumberValues.{value}
use Rattle.proof_form.specs.Refutations as form
use Rattle.proof_form.specs.Lines.{ascend, is_named, inside_triple, call_triple, back_triple}
use Rattle.proof_form.proofs.OrderLaws.{below_by_value}
use Rattle.proof_names.specs.declared.outlines.Listed.TheVariants.{Inside, Call, Back}
use Rattle.proof_names.specs.Numbers.{index_in, short_in}
use Rattle.proof_names.specs.Options.{both}
use Rattle.proof_names.specs.ProofSpell.Correspond.{Correspond}
use Rattle.proof_names.specs.ProofSpell.Drafts.{AscendFrom}
use Rattle.proof_names.specs.ProofSpell.Spelled.{Writes, WritesIndex, WritesShort, SpellsTriple, SpellsNode}
use Rattle.proof_names.specs.ProofSpell.Nodes.{SpellsBranch}
use Rattle.proof_names.proofs.ProofSpell.NumeralLaws.{writes_value, writes_not_zero}
use Rattle.proof_names.proofs.ProofSpell.CorrespondLaws.{viewed, all_values}
use Rattle.proof_names.proofs.ProofSpell.RefutationLaws.{refutation_valid, refutation_named, refutation_fits}

-- ---- triples

both_are : {X Y : Type 0} (o : Option X) (p : Option Y) (x : X) (y : Y) → o ≡ Some x → p ≡ Some y → both o p ≡ Some (x, y)
both_are o p x y e f = rw (e, f) refl

-- the numbers of a source, a letter and a target
three : (q l r : Numeral) (i k j : ℕ) → WritesIndex q i → WritesShort l k → WritesIndex r j →
    both (index_in q) (both (short_in l) (index_in r)) ≡ Some (i, (k, j))
three q l r i k j u v w =
    both_are (index_in q) (both (short_in l) (index_in r)) i (k, j) u.read (both_are (short_in l) (index_in r) k j v.read w.read)

-- those of two sources, a letter and a target
four : (x p l r : Numeral) (i h k j : ℕ) → WritesIndex x i → WritesIndex p h → WritesShort l k → WritesIndex r j →
    both (both (index_in x) (index_in p)) (both (short_in l) (index_in r)) ≡ Some ((i, h), (k, j))
four x p l r i h k j t u v w =
    both_are (both (index_in x) (index_in p)) (both (short_in l) (index_in r)) (i, h) (k, j)
    (both_are (index_in x) (index_in p) i h t.read u.read) (both_are (short_in l) (index_in r) k j v.read w.read)

-- a refutation as it is spelled
pub record IsProof (proof : List RNode) (ms : List PlainNode) : Type 0 where
  pub spelled : Correspond (λ n. SpellsBranch (form.plain_refutation_node n)) proof ms
  pub whole : nodes.is_tree ms ≡ true

nodes_are : (proof : List RNode) (ms : List PlainNode) → IsProof proof ms → Correspond SpellsBranch (map form.plain_refutation_node proof) ms
nodes_are proof ms p = viewed SpellsBranch form.plain_refutation_node proof ms p.spelled

pub inside_spelled : (q l r : Numeral) (proof : List RNode) (i k j : ℕ) (ms : List PlainNode) → WritesIndex q i → WritesShort l k → WritesIndex r j →
    IsProof proof ms → SpellsTriple (inside_triple q l r (map form.plain_refutation_node proof)) (record { listed = Inside i k j; proof = ms })
inside_spelled q l r proof i k j ms u v w p =
    let n = nodes_are proof ms p in
    record {
      valid = rw (u.writes.valid, v.writes.valid, w.writes.valid, refutation_valid (map form.plain_refutation_node proof) ms n p.whole) refl;
      numbers = ap (option_map (λ (t : ℕ × (ℕ × ℕ)). Inside t.0 t.1.0 t.1.1)) (three q l r i k j u v w);
      proof = refutation_named (map form.plain_refutation_node proof) ms n;
      named = λ columns h. refutation_fits columns (map form.plain_refutation_node proof) ms n h;
    }

pub call_spelled : (q l r : Numeral) (proof : List RNode) (i k j : ℕ) (ms : List PlainNode) → WritesIndex q i → WritesShort l k → WritesIndex r j →
    IsProof proof ms → SpellsTriple (call_triple q l r (map form.plain_refutation_node proof)) (record { listed = Call i k j; proof = ms })
call_spelled q l r proof i k j ms u v w p =
    let n = nodes_are proof ms p in
    record {
      valid = rw (u.writes.valid, v.writes.valid, w.writes.valid, refutation_valid (map form.plain_refutation_node proof) ms n p.whole) refl;
      numbers = ap (option_map (λ (t : ℕ × (ℕ × ℕ)). Call t.0 t.1.0 t.1.1)) (three q l r i k j u v w);
      proof = refutation_named (map form.plain_refutation_node proof) ms n;
      named = λ columns h. refutation_fits columns (map form.plain_refutation_node proof) ms n h;
    }

pub back_spelled : (x p l r : Numeral) (proof : List RNode) (i h k j : ℕ) (ms : List PlainNode) → WritesIndex x i → WritesIndex p h → WritesShort l k → WritesIndex r j →
    IsProof proof ms →
    SpellsTriple (back_triple x p l r (map form.plain_refutation_node proof)) (record { listed = Back i h k j; proof = ms })
back_spelled x p l r proof i h k j ms t u v w f =
    let n = nodes_are proof ms f in
    record {
      valid = rw (t.writes.valid, u.writes.valid, v.writes.valid, w.writes.valid, refutation_valid (map form.plain_refutation_node proof) ms n f.whole) refl;
      numbers = ap (option_map (λ (t : (ℕ × ℕ) × (ℕ × ℕ)). Back t.0.0 t.0.1 t.1.0 t.1.1)) (four x p l r i h k j t u v w);
      proof = refutation_named (map form.plain_refutation_node proof) ms n;
      named = λ columns q. refutation_fits columns (map form.plain_refutation_node proof) ms n q;
    }

-- ---- steps

-- ---- nodes

below_of : (a b : Numeral) (i j : ℕ) → Writes a (pos i) → Writes b (pos j) → i < j → numeral_is_below a b ≡ true
below_of a b i j u v l =
    let h : value a <ℤ value b = rw (writes_value a (pos i) u, writes_value b (pos j) v) (whole i j l) in
    (below_by_value a.negative a.digits b.negative b.digits u.valid v.valid).1 h
  where
    whole : (i j : ℕ) → i < j → pos i <ℤ pos j
    whole i j l = omega (arith, ints)

ascending : (n : ℕ) (ks : List Numeral) (js : List ℕ) → Correspond WritesIndex ks js → AscendFrom n js → ascend ks ≡ true
ascending n [] js c h = refl
ascending n (k ∷ []) js c h = refl
ascending n (k ∷ l ∷ ks) [] c h = absurd c
ascending n (k ∷ l ∷ ks) (j ∷ []) c h = absurd c.1
ascending n (k ∷ l ∷ ks) (j ∷ i ∷ js) c h =
    rw (below_of k l j i c.0.writes c.1.0.writes (let a = h.1.0 in omega arith), ascending (j + 1) (l ∷ ks) (i ∷ js) c.1 h.1) refl

not_zero : (j : ℕ) → 1 ≤ j → pos j ≢ pos 0
not_zero zero l = absurd (omega arith)
not_zero (suc j) l = λ e. absurd (cc)

named_all : (n : ℕ) (ks : List Numeral) (js : List ℕ) → 1 ≤ n → Correspond WritesIndex ks js → AscendFrom n js → list_all is_named ks ≡ true
named_all n [] js l c h = refl
named_all n (k ∷ ks) [] l c h = absurd c
named_all n (k ∷ ks) (j ∷ js) l c h =
    let g : 1 ≤ j = (let a = h.0 in omega arith) in
    rw (c.0.writes.valid, writes_not_zero k (pos j) c.0.writes (not_zero j g), named_all (j + 1) ks js (omega arith) c.1 h.1) refl

pub node_spelled : (p e : Numeral) (ks : List Numeral) (i j : ℕ) (js : List ℕ) → WritesShort p i → WritesIndex e j → Correspond WritesIndex ks js → AscendFrom 1 js →
    SpellsNode (record { place = p; entry = e; preds = ks }) (record { place = i; entry = j; preds = js })
node_spelled p e ks i j js u v c h = record {
  valid = rw (u.writes.valid, v.writes.valid, named_all 1 ks js (omega arith) c h, ascending 1 ks js c h) refl;
  place = u.read;
  entry = v.read;
  preds = all_values WritesIndex index_in (λ x y w. w.read) ks js c;
}
