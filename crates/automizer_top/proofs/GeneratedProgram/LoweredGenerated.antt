-- The lowering of the generated program is not refused.
use Rattle.std.proofs.Common.{◌≡◌, ℕ, zero, suc, ◌+◌, ◌-◌, ◌≤◌, ◌<◌, ◌^◌, ℤ, pos, negsuc, ◌+ℤ◌, cond, Bool, true, false, List, [], ◌∷◌, ◌++◌, Option, None, Some, slice_get, if◌then◌else◌, append_assoc, refl, ap, sym, ◌∙◌, subst, arith}
use Rattle.std.specs.Prelude.{nat_lt}
use Rattle.std.proofs.Math.Dec.{ltb}
use Rattle.std.proofs.Math.IntN.{sub_ℕ}
use Rattle.std.proofs.lemmas.Bool.Decides.{nat_tests}
use Rattle.typed_tree.specs.AffineForm.{fits}
use Rattle.boogie_tree.specs.declared.tree.Op.TheVariants.{Add}
use Rattle.boogie_tree.specs.Places.{beginning}
use Rattle.typed_tree.specs.TypedTree as typed
use Rattle.typed_tree.specs.TypedTree.{TypedBlock, TypedProcedure, TypedProgram}
use Rattle.boogie_run.specs.BoogiePlaces.Places.{Place, located, points_of_body, places_from}
use Rattle.boogie_tree.specs.Spans.{stands_before}
use Rattle.lowered_graph.specs.Items.{ProgramItem, ItemFault, fault_span, item_fault, earlier, items_at, items_of, first_of, first_fault}
use Rattle.std.proofs.lemmas.Option.{same_Some}
use Rattle.automizer_top.specs.GeneratedProgram.Generated.{is_positive}
use Rattle.automizer_top.specs.GeneratedProgram.Laws.{IsLowered}
use Rattle.automizer_top.proofs.GeneratedProgram.KeptGenerated.{typed_stands, generated_resolved}
use Rattle.automizer_top.proofs.GeneratedProgram.TypedGenerated.{counter_info, column, typed_becomes, typed_calls, typed_rest, typed_main, typed_link, typed_chain, typed_generated}

-- the program with these procedures
abbrev pub of_procs : List TypedProcedure → TypedProgram
of_procs procs = record { globals = counter_info ∷ []; axioms = []; procs = procs; entry = 0 }

abbrev pub main_block : TypedBlock
main_block = typed.Then (typed_becomes (typed.Lit beginning (pos 0))) (typed.Then (typed_calls 1) typed.Empty)

abbrev pub link_block : Bool → ℕ → TypedBlock
link_block next number = typed.Then (typed_becomes (typed.Bin beginning Add (typed.Var beginning column) (typed.Lit beginning (pos 1)))) (typed_rest next number)

items_behind : (t : TypedProgram) (ps qs : List Place) → items_of t (ps ++ qs) ≡ items_of t ps ++ items_of t qs
items_behind t [] qs = refl
items_behind t (p ∷ ps) qs = ap (λ (is : List ProgramItem). items_at t p ++ is) (items_behind t ps qs) ∙ sym (append_assoc (items_at t p) (items_of t ps) (items_of t qs))

first_behind : (is js : List ProgramItem) → first_of is ≡ None → first_of js ≡ None → first_of (is ++ js) ≡ None
first_behind [] js a b = b
first_behind (i ∷ is) js a b = let p = parts (item_fault i) (first_of is) a in rw (p.0, first_behind is js p.1 b) refl
  where
    parts : (f g : Option ItemFault) → earlier f g ≡ None → (f ≡ None) × (g ≡ None)
    parts None g e = (refl, e)
    parts (Some f) None e = cc
    parts (Some f) (Some g) e = absurd (by (stands_before (fault_span g) (fault_span f)) f g e)
      where
        by : (b : Bool) (f g : ItemFault) → (if b then Some g else Some f) ≡ None → ⊥
        by true f g e = cc
        by false f g e = cc

main_quiet : (procs : List TypedProcedure) (b : Bool) → slice_get procs 0 ≡ Some typed_main → slice_get procs 1 ≡ Some (typed_link b 1) →
    first_of (items_of (of_procs procs) (located 0 (points_of_body (of_procs procs) 0 typed_main main_block))) ≡ None
main_quiet procs b e f = simp (e, f) refl

-- ---- the numbers of a bound

small : (n : ℕ) → n ≤ 1000 → nat_lt n (2 ^ 127) ≡ true
small n l = grind (arith, nat_tests)

from_zero : (j : ℕ) → sub_ℕ 0 (suc j) ≡ negsuc j
from_zero j =
    let less : ltb 0 (suc j) ≡ true = grind (arith, nat_tests) in
    let same : suc j - 1 ≡ j = omega arith in
    ap (λ (b : Bool). cond b (negsuc (suc j - 1)) (pos (0 - suc j))) less ∙ ap negsuc same

less_one : (j : ℕ) → sub_ℕ (suc j) 1 ≡ pos j
less_one j =
    let more : ltb (suc j) 1 ≡ false = grind (arith, nat_tests) in
    let same : suc j - 1 ≡ j = omega arith in
    ap (λ (b : Bool). cond b (negsuc (1 - suc (suc j))) (pos (suc j - 1))) more ∙ ap pos same

low_fits : (j : ℕ) → j ≤ 200 → fits (sub_ℕ 0 (suc j) +ℤ pos 0) ≡ true
low_fits j l = ap (λ (z : ℤ). fits (z +ℤ pos 0)) (from_zero j) ∙ (ap fits (from_zero j) ∙ small (suc j) (omega arith))

high_fits : (j : ℕ) → j ≤ 200 → fits (sub_ℕ (suc j) 1) ≡ true
high_fits j l = ap fits (less_one j) ∙ small j (omega arith)

-- ---- procedures

last_quiet : (procs : List TypedProcedure) (j : ℕ) → j ≤ 200 → slice_get procs (suc j) ≡ Some (typed_link false (suc j)) →
    first_of (items_of (of_procs procs) (located (suc j) (points_of_body (of_procs procs) (suc j) (typed_link false (suc j)) (link_block false (suc j))))) ≡ None
last_quiet procs j l e = let low = low_fits j l in let high = high_fits j l in simp (e, low, high) refl

next_quiet : (procs : List TypedProcedure) (j : ℕ) (b : Bool) → j ≤ 200 → slice_get procs (suc j) ≡ Some (typed_link true (suc j)) → slice_get procs (suc j + 1) ≡ Some (typed_link b (suc j + 1)) →
    first_of (items_of (of_procs procs) (located (suc j) (points_of_body (of_procs procs) (suc j) (typed_link true (suc j)) (link_block true (suc j))))) ≡ None
next_quiet procs j b l e f = let low = low_fits j l in let high = high_fits j l in simp (e, low, high) (rw f (simp (e, f, low, high) refl))

-- the procedure with that number, where the next one is a procedure of the chain
link_quiet : (procs : List TypedProcedure) (j : ℕ) (next b : Bool) → j ≤ 200 → slice_get procs (suc j) ≡ Some (typed_link next (suc j)) → (next ≡ true → slice_get procs (suc j + 1) ≡ Some (typed_link b (suc j + 1))) →
    first_of (items_of (of_procs procs) (located (suc j) (points_of_body (of_procs procs) (suc j) (typed_link next (suc j)) (link_block next (suc j))))) ≡ None
link_quiet procs j true b l e f = next_quiet procs j b l e (f refl)
link_quiet procs j false b l e f = last_quiet procs j l e

-- the procedures from that number on are those of this chain
abbrev pub Stand : List TypedProcedure → ℕ → ℕ → Type 0
Stand procs number rest = (i : ℕ) → i < rest → slice_get procs (number + i) ≡ slice_get (typed_chain number rest) i

pub first_stands : (procs : List TypedProcedure) (number more : ℕ) → Stand procs number (suc more) → slice_get procs number ≡ Some (typed_link (is_positive more) number)
unfolding typed_chain
first_stands procs number more h = let z : number ≡ number + 0 = omega arith in ap (slice_get procs) z ∙ h 0 (omega arith)

pub others_stand : (procs : List TypedProcedure) (number more : ℕ) → Stand procs number (suc more) → Stand procs (number + 1) more
unfolding typed_chain
others_stand procs number more h i l = let z : (number + 1) + i ≡ number + suc i = omega arith in ap (slice_get procs) z ∙ h (suc i) (omega arith)

-- the procedure behind the first one, if there is one
pub next_stands : (procs : List TypedProcedure) (number more : ℕ) → Stand procs number (suc more) → (b : Bool) × (is_positive more ≡ true → slice_get procs (number + 1) ≡ Some (typed_link b (number + 1)))
next_stands procs number zero h = (false, λ e. cc)
next_stands procs number (suc more) h = (is_positive more, λ e. first_stands procs (number + 1) more (others_stand procs number (suc more) h))

-- those of the chain from that number on
chain_quiet : (procs : List TypedProcedure) (number rest : ℕ) → number + rest ≤ 201 → Stand procs number rest → 1 ≤ number →
    first_of (items_of (of_procs procs) (places_from (of_procs procs) number (typed_chain number rest))) ≡ None
unfolding typed_chain
chain_quiet procs number zero m h l = refl
chain_quiet procs zero (suc more) m h l = absurd (omega arith)
chain_quiet procs (suc j) (suc more) m h l =
    let t : TypedProgram = of_procs procs in
    let first : List Place = located (suc j) (points_of_body t (suc j) (typed_link (is_positive more) (suc j)) (link_block (is_positive more) (suc j))) in
    let rest : List Place = places_from t (suc j + 1) (typed_chain (suc j + 1) more) in
    let w = next_stands procs (suc j) more h in
    let here_none : first_of (items_of t first) ≡ None = link_quiet procs j (is_positive more) w.0 (omega arith) (first_stands procs (suc j) more h) w.1 in
    let rest_none : first_of (items_of t rest) ≡ None = chain_quiet procs (suc j + 1) more (omega arith) (others_stand procs (suc j) more h) (omega arith) in
    ap first_of (items_behind t first rest) ∙ first_behind (items_of t first) (items_of t rest) here_none rest_none

pub stand : (count : ℕ) → Stand (typed_main ∷ typed_chain 1 count) 1 count
stand count i l = let z : 1 + i ≡ suc i = omega arith in ap (slice_get (typed_main ∷ typed_chain 1 count)) z

generated_lowered : (count : ℕ) → 1 ≤ count → count ≤ 200 → first_fault (typed_generated count) ≡ None
generated_lowered count l m =
    let procs : List TypedProcedure = typed_main ∷ typed_chain 1 count in
    let t : TypedProgram = of_procs procs in
    let first : List Place = located 0 (points_of_body t 0 typed_main main_block) in
    let rest : List Place = places_from t 1 (typed_chain 1 count) in
    let w = typed_stands count 1 (omega arith) l in
    let first_none : first_of (items_of t first) ≡ None = main_quiet procs w.0 refl w.1 in
    let rest_none : first_of (items_of t rest) ≡ None = chain_quiet procs 1 count (omega arith) (stand count) (omega arith) in
    ap first_of (items_behind t first rest) ∙ first_behind (items_of t first) (items_of t rest) first_none rest_none

pub lowered_so : (count : ℕ) → 1 ≤ count → count ≤ 200 → IsLowered count
lowered_so count l m t e =
    let one : typed_generated count ≡ t = same_Some (typed_generated count) t (sym (generated_resolved count l m) ∙ e) in
    subst (λ (u : TypedProgram). first_fault u ≡ None) one (generated_lowered count l m)
