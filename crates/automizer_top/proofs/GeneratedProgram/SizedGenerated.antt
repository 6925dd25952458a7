-- How many procedures, places, letters and assertions the generated program has.
use Rattle.std.proofs.Common.{◌≡◌, ℕ, zero, suc, ◌+◌, ◌*◌, ◌≤◌, Bool, true, false, List, [], ◌∷◌, ◌++◌, map, length, Some, slice_get, append_assoc, refl, ap, sym, ◌∙◌, subst, arith}
use Rattle.std.specs.Prelude.{nat_eq}
use Rattle.std.proofs.lemmas.Bool.Decides.{nat_tests}
use Rattle.std.proofs.lemmas.List.{length-append, length-map}
use Rattle.std.proofs.lemmas.Option.{same_Some}
use Rattle.typed_tree.specs.TypedTree.{TypedProcedure, TypedProgram}
use Rattle.letter_acts.specs.declared.sites.Site.{Site}
use Rattle.boogie_run.specs.BoogiePlaces.Places.{Place, located, points_of_body, places_from}
use Rattle.letter_acts.specs.LetterTable.Letters.{MarkedAct, Arc, Lettered, with_arcs, no_letters, lettered}
use Rattle.lowered_graph.specs.Arcs.{start_arc, arcs_at, arcs_of}
use Rattle.lowered_graph.specs.Lowered.{action_sites, sites_of, program_sites, lowered}
use Rattle.boogie_run.specs.BoogiePoints.Actions.{action_at}
use Rattle.automizer_top.specs.GeneratedProgram.Laws.{HasSizes, IsSized}
use Rattle.automizer_top.proofs.GeneratedProgram.KeptGenerated.{typed_stands, generated_resolved}
use Rattle.automizer_top.proofs.GeneratedProgram.TypedGenerated.{typed_main, typed_link, typed_chain, typed_generated}
use Rattle.automizer_top.proofs.GeneratedProgram.LoweredGenerated.{of_procs, main_block, link_block, Stand, first_stands, others_stand, next_stands, stand}
use Rattle.automizer_top.proofs.GeneratedProgram.NewActs.{are_new, letters_of, HaveOf, grown, arcs_behind, next_has_none, none_has_any}

same_number : (n : ℕ) → nat_eq n n ≡ true
same_number n = grind (arith, nat_tests)

-- ---- places

abbrev main_places : TypedProgram → List Place
main_places t = located 0 (points_of_body t 0 typed_main main_block)

last_length : (procs : List TypedProcedure) (j : ℕ) → length (located (suc j) (points_of_body (of_procs procs) (suc j) (typed_link false (suc j)) (link_block false (suc j)))) ≡ 3
last_length procs j = refl

next_length : (procs : List TypedProcedure) (j : ℕ) (b : Bool) → slice_get procs (suc j + 1) ≡ Some (typed_link b (suc j + 1)) →
    length (located (suc j) (points_of_body (of_procs procs) (suc j) (typed_link true (suc j)) (link_block true (suc j)))) ≡ 4
next_length procs j b f = rw f refl

main_length : (procs : List TypedProcedure) (b : Bool) → slice_get procs 1 ≡ Some (typed_link b 1) → length (main_places (of_procs procs)) ≡ 3
main_length procs b f = simp f refl

chain_places : (procs : List TypedProcedure) (number more : ℕ) → Stand procs number (suc more) → 1 ≤ number →
    length (places_from (of_procs procs) number (typed_chain number (suc more))) + 1 ≡ 4 * suc more
unfolding typed_chain
chain_places procs zero more h l = absurd (omega arith)
chain_places procs (suc j) zero h l = refl
chain_places procs (suc j) (suc more) h l =
    let t : TypedProgram = of_procs procs in
    let first : List Place = located (suc j) (points_of_body t (suc j) (typed_link true (suc j)) (link_block true (suc j))) in
    let rest : List Place = places_from t (suc j + 1) (typed_chain (suc j + 1) (suc more)) in
    let w = next_stands procs (suc j) (suc more) h in
    let four : length first ≡ 4 = next_length procs j w.0 (w.1 refl) in
    let others : length rest + 1 ≡ 4 * suc more = chain_places procs (suc j + 1) more (others_stand procs (suc j) (suc more) h) (omega arith) in
    let all : length (first ++ rest) ≡ length first + length rest = length-append first rest in
    omega (arith, four, others, all)

-- ---- assertions

sites_behind : (t : TypedProgram) (ps qs : List Place) → length (sites_of t (ps ++ qs)) ≡ length (sites_of t ps) + length (sites_of t qs)
sites_behind t [] qs = let n : ℕ = length (sites_of t qs) in let z : n ≡ 0 + n = omega arith in z
sites_behind t (p ∷ ps) qs =
    let a : List (ℕ × Site) = action_sites t p.proc (action_at t p.proc p.point) in
    let front : length (a ++ sites_of t (ps ++ qs)) ≡ length a + length (sites_of t (ps ++ qs)) = length-append a (sites_of t (ps ++ qs)) in
    let here : length (a ++ sites_of t ps) ≡ length a + length (sites_of t ps) = length-append a (sites_of t ps) in
    let more = sites_behind t ps qs in
    omega (arith, front, here, more)

last_sites : (procs : List TypedProcedure) (j : ℕ) → slice_get procs (suc j) ≡ Some (typed_link false (suc j)) →
    length (sites_of (of_procs procs) (located (suc j) (points_of_body (of_procs procs) (suc j) (typed_link false (suc j)) (link_block false (suc j))))) ≡ 1
last_sites procs j e = simp e refl

next_sites : (procs : List TypedProcedure) (j : ℕ) (b : Bool) → slice_get procs (suc j) ≡ Some (typed_link true (suc j)) → slice_get procs (suc j + 1) ≡ Some (typed_link b (suc j + 1)) →
    length (sites_of (of_procs procs) (located (suc j) (points_of_body (of_procs procs) (suc j) (typed_link true (suc j)) (link_block true (suc j))))) ≡ 1
next_sites procs j b e f = simp (e, f) (rw f (simp (e, f) refl))

main_sites : (procs : List TypedProcedure) (b : Bool) → slice_get procs 0 ≡ Some typed_main → slice_get procs 1 ≡ Some (typed_link b 1) →
    length (sites_of (of_procs procs) (main_places (of_procs procs))) ≡ 0
main_sites procs b e f = simp (e, f) refl

chain_sites : (procs : List TypedProcedure) (number more : ℕ) → Stand procs number (suc more) → 1 ≤ number →
    length (sites_of (of_procs procs) (places_from (of_procs procs) number (typed_chain number (suc more)))) ≡ suc more
unfolding typed_chain
chain_sites procs zero more h l = absurd (omega arith)
chain_sites procs (suc j) zero h l =
    let t : TypedProgram = of_procs procs in
    let first : List Place = located (suc j) (points_of_body t (suc j) (typed_link false (suc j)) (link_block false (suc j))) in
    sites_behind t first [] ∙ ap (λ (n : ℕ). n + 0) (last_sites procs j (first_stands procs (suc j) 0 h))
chain_sites procs (suc j) (suc more) h l =
    let t : TypedProgram = of_procs procs in
    let first : List Place = located (suc j) (points_of_body t (suc j) (typed_link true (suc j)) (link_block true (suc j))) in
    let rest : List Place = places_from t (suc j + 1) (typed_chain (suc j + 1) (suc more)) in
    let w = next_stands procs (suc j) (suc more) h in
    let one : length (sites_of t first) ≡ 1 = next_sites procs j w.0 (first_stands procs (suc j) (suc more) h) (w.1 refl) in
    let others : length (sites_of t rest) ≡ suc more = chain_sites procs (suc j + 1) more (others_stand procs (suc j) (suc more) h) (omega arith) in
    let all = sites_behind t first rest in
    omega (arith, one, others, all)

-- ---- letters

arcs_split : (t : TypedProgram) (ps qs : List Place) → arcs_of t (ps ++ qs) ≡ arcs_of t ps ++ arcs_of t qs
arcs_split t [] qs = refl
arcs_split t (p ∷ ps) qs = ap (λ (xs : List Arc). arcs_at t p ++ xs) (arcs_split t ps qs) ∙ sym (append_assoc (arcs_at t p) (arcs_of t ps) (arcs_of t qs))

last_new : (procs : List TypedProcedure) (j : ℕ) → slice_get procs (suc j) ≡ Some (typed_link false (suc j)) →
    are_new (suc j) [] (arcs_of (of_procs procs) (located (suc j) (points_of_body (of_procs procs) (suc j) (typed_link false (suc j)) (link_block false (suc j))))) ≡ true
last_new procs j e = let s = same_number (suc j) in simp (e, s) refl

last_letters : (procs : List TypedProcedure) (j : ℕ) → slice_get procs (suc j) ≡ Some (typed_link false (suc j)) →
    letters_of (arcs_of (of_procs procs) (located (suc j) (points_of_body (of_procs procs) (suc j) (typed_link false (suc j)) (link_block false (suc j))))) ≡ 3
last_letters procs j e = simp e refl

next_new : (procs : List TypedProcedure) (j : ℕ) (b : Bool) → slice_get procs (suc j) ≡ Some (typed_link true (suc j)) → slice_get procs (suc j + 1) ≡ Some (typed_link b (suc j + 1)) →
    are_new (suc j) [] (arcs_of (of_procs procs) (located (suc j) (points_of_body (of_procs procs) (suc j) (typed_link true (suc j)) (link_block true (suc j))))) ≡ true
next_new procs j b e f = let s = same_number (suc j) in simp (e, s) (rw f (simp (e, f, s) refl))

next_letters : (procs : List TypedProcedure) (j : ℕ) (b : Bool) → slice_get procs (suc j) ≡ Some (typed_link true (suc j)) → slice_get procs (suc j + 1) ≡ Some (typed_link b (suc j + 1)) →
    letters_of (arcs_of (of_procs procs) (located (suc j) (points_of_body (of_procs procs) (suc j) (typed_link true (suc j)) (link_block true (suc j))))) ≡ 5
next_letters procs j b e f = simp e (rw f (simp (e, f) refl))

main_new : (procs : List TypedProcedure) (b : Bool) → slice_get procs 0 ≡ Some typed_main → slice_get procs 1 ≡ Some (typed_link b 1) →
    are_new 0 [] (start_arc (of_procs procs) ∷ arcs_of (of_procs procs) (main_places (of_procs procs))) ≡ true
main_new procs b e f = simp (e, f) refl

main_letters : (procs : List TypedProcedure) (b : Bool) → slice_get procs 0 ≡ Some typed_main → slice_get procs 1 ≡ Some (typed_link b 1) →
    letters_of (start_arc (of_procs procs) ∷ arcs_of (of_procs procs) (main_places (of_procs procs))) ≡ 4
main_letters procs b e f = simp (e, f) refl

chain_letters : (procs : List TypedProcedure) (number more : ℕ) (d : Lettered) → Stand procs number (suc more) → 1 ≤ number → HaveOf number [] d.acts →
    length (with_arcs d (arcs_of (of_procs procs) (places_from (of_procs procs) number (typed_chain number (suc more))))).acts + 2 ≡ length d.acts + 5 * suc more
unfolding typed_chain
chain_letters procs zero more d h l none = absurd (omega arith)
chain_letters procs (suc j) zero d h l none =
    let t : TypedProgram = of_procs procs in
    let first : List Place = located (suc j) (points_of_body t (suc j) (typed_link false (suc j)) (link_block false (suc j))) in
    let e = first_stands procs (suc j) 0 h in
    let new = grown (suc j) [] d (arcs_of t first) none (last_new procs j e) in
    let three = last_letters procs j e in
    let all = ap (λ (xs : List Arc). length (with_arcs d xs).acts) (arcs_split t first []) ∙ ap (λ (x : Lettered). length x.acts) (arcs_behind d (arcs_of t first) []) in
    let longer = new.longer in
    omega (arith, three, all, longer)
chain_letters procs (suc j) (suc more) d h l none =
    let t : TypedProgram = of_procs procs in
    let first : List Place = located (suc j) (points_of_body t (suc j) (typed_link true (suc j)) (link_block true (suc j))) in
    let rest : List Place = places_from t (suc j + 1) (typed_chain (suc j + 1) (suc more)) in
    let w = next_stands procs (suc j) (suc more) h in
    let e = first_stands procs (suc j) (suc more) h in
    let new = grown (suc j) [] d (arcs_of t first) none (next_new procs j w.0 e (w.1 refl)) in
    let five = next_letters procs j w.0 e (w.1 refl) in
    let one : Lettered = with_arcs d (arcs_of t first) in
    let others = chain_letters procs (suc j + 1) more one (others_stand procs (suc j) (suc more) h) (omega arith) (next_has_none (suc j) new.own one.acts new.have) in
    let all = ap (λ (xs : List Arc). length (with_arcs d xs).acts) (arcs_split t first rest) ∙ ap (λ (x : Lettered). length x.acts) (arcs_behind d (arcs_of t first) (arcs_of t rest)) in
    let longer = new.longer in
    omega (arith, five, all, longer, others)

-- ---- the whole program

chain_length : (number rest : ℕ) → length (typed_chain number rest) ≡ rest
unfolding typed_chain
chain_length number zero = refl
chain_length number (suc more) = ap suc (chain_length (number + 1) more)

generated_sized : (more : ℕ) → suc more ≤ 200 → HasSizes (suc more) (typed_generated (suc more))
generated_sized more l =
    let count : ℕ = suc more in
    let procs : List TypedProcedure = typed_main ∷ typed_chain 1 count in
    let t : TypedProgram = of_procs procs in
    let first : List Place = main_places t in
    let rest : List Place = places_from t 1 (typed_chain 1 count) in
    let w = typed_stands count 1 (omega arith) (omega arith) in
    let main_three : length first ≡ 3 = main_length procs w.0 w.1 in
    let others : length rest + 1 ≡ 4 * count = chain_places procs 1 more (stand count) (omega arith) in
    let all : length (first ++ rest) ≡ length first + length rest = length-append first rest in
    let none : length (sites_of t first) ≡ 0 = main_sites procs w.0 refl w.1 in
    let some : length (sites_of t rest) ≡ count = chain_sites procs 1 more (stand count) (omega arith) in
    let sites = sites_behind t first rest in
    let asserted : length (program_sites t) ≡ count = omega (arith, none, some, sites) in
    let shown : length (lowered t).sites ≡ length (program_sites t) = length-map (program_sites t) (λ (s : ℕ × Site). s.1) in
    let starts : List Arc = start_arc t ∷ arcs_of t first in
    let new = grown 0 [] no_letters starts (none_has_any 0) (main_new procs w.0 refl w.1) in
    let four = main_letters procs w.0 refl w.1 in
    let one : Lettered = with_arcs no_letters starts in
    let more_letters = chain_letters procs 1 more one (stand count) (omega arith) (next_has_none 0 new.own one.acts new.have) in
    let whole = ap (λ (xs : List Arc). length (with_arcs no_letters (start_arc t ∷ xs)).acts) (arcs_split t first rest) ∙ ap (λ (x : Lettered). length x.acts) (arcs_behind no_letters starts (arcs_of t rest)) in
    let longer = new.longer in
    let all_acts : List MarkedAct = (lettered (start_arc t ∷ arcs_of t (first ++ rest))).acts in
    let unmarked : length (map (λ a. a.act) all_acts) ≡ length all_acts = length-map all_acts (λ (a : MarkedAct). a.act) in
    record {
      procedures = ap suc (chain_length 1 count) ∙ (let z : suc count ≡ count + 1 = omega arith in z);
      places = omega (arith, main_three, others, all, asserted, shown);
      letters = unmarked ∙ omega (arith, four, longer, more_letters, whole);
      assertions = shown ∙ asserted;
    }

pub sized_so : (count : ℕ) → 1 ≤ count → count ≤ 200 → IsSized count
sized_so zero l m t e = absurd (omega arith)
sized_so (suc more) l m t e =
    let one : typed_generated (suc more) ≡ t = same_Some (typed_generated (suc more)) t (sym (generated_resolved (suc more) l m) ∙ e) in
    subst (HasSizes (suc more)) one (generated_sized more m)
