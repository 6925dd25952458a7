-- A word is read letter by letter: the rows and columns that it has made, and the calls that are open.
use Rattle.std.proofs.Common.{◌≡◌, ◌∙◌, ℕ, suc, ◌+◌, Bool, true, List, [], ◌∷◌, ◌++◌, length, map, reverse, length-append, refl, sym, ap, subst, arith, Option, None, Some}
use Rattle.std.specs.Prelude.{filter, slice_index}
use Rattle.std.proofs.lemmas.List.{length-map, reverse-append}
use Rattle.nwa_base.specs.declared.letters.Kind.{Kind}
use Rattle.nwa_base.specs.declared.letters.Kind.TheVariants as kinds
use Rattle.nwa_base.specs.declared.letters.Letter.{Letter}
use Rattle.nwa_base.specs.Words.{goes_on}
use Rattle.lin_rows.specs.Rows.{LinearRow}
use Rattle.letter_acts.specs.Frames.{Columns, is_variable, variables_of}
use Rattle.letter_acts.specs.Acts.{PlainAct, inside_act, call_act, back_act, kind_of, Alphabet, frame_of, act_of}
use Rattle.letter_acts.specs.Invariant.{Graph, alphabet_of}
use Rattle.letter_acts.proofs.KnownLemmas.{act_found}
use Rattle.letter_acts.specs.FrameRows.Rows.{bounds, types_of, types_at}
use Rattle.path_rows.specs.Versions.{PathStage, Part, part_rows, local_columns, old_part, inside_part, call_part, back_part, return_part, act_part, part_of}
use Rattle.path_rows.specs.Paths.{start_frame}
use Rattle.nested_itp.proofs.NestedPredicates.StampCounts.{types_counted, types_counted_at, places_counted, entries_counted, return_rows}
use Rattle.nested_itp.specs.NestedRefutations.Numbers as numbers
use Rattle.nested_itp.specs.NestedRefutations.Numbers.{bounds_in, open_after, read_on, position_here}
use Rattle.nested_itp.specs.declared.triple_steps.readings.Reading.{Reading}
use Rattle.nested_itp.specs.declared.triple_steps.readings.OpenCall.{OpenCall}
use Rattle.nested_itp.specs.TripleSteps.Ties.Readings.{IsAt, IsCall, AreCalls, IsReading, start_reading, calls_left, FindsCall}

pub starts : (g : Graph) (w : List Letter) (s : Reading) (frame : Columns) → start_frame g ≡ frame → s.letters ≡ 0 → s.rows ≡ bounds_in frame → s.made ≡ length frame → s.calls.items ≡ [] →
    IsReading g w (start_reading g) s
starts g w s frame f l r m c = record {
  letters = sym l;
  rows = ap bounds_in f ∙ sym r;
  made = ap (λ (x : Columns). length x) f ∙ sym m;
  calls = subst (λ (x : List OpenCall). AreCalls g w [] (reverse x)) (sym c) tt;
}

-- ---- how much a letter makes

inside_rows : (frame : Columns) (written : List ℕ) (helpers : ℕ) (rows : List LinearRow) (p : PathStage) →
    length (part_rows (inside_part frame written helpers rows p)) ≡ length rows + length (bounds 0 (types_at frame written))
inside_rows frame written helpers rows p =
    let part : Part = inside_part frame written helpers rows p in
    let a : length part.own ≡ length rows = length-map rows _ in
    let b : length part.bounds ≡ length (bounds 0 (types_at frame written)) = types_counted_at p.made frame written ∙ sym (types_counted_at 0 frame written) in
    let c : length (part.own ++ part.bounds) ≡ length part.own + length part.bounds = length-append part.own part.bounds in
    omega (arith, a, b, c)

call_rows : (callee : Columns) (helpers : ℕ) (rows : List LinearRow) (p : PathStage) →
    length (part_rows (call_part callee helpers rows p)) ≡ length rows + (length (variables_of callee) + (bounds_in (local_columns callee) + bounds_in (old_part callee)))
call_rows callee helpers rows p =
    let part : Part = call_part callee helpers rows p in
    let olds : ℕ = p.made + length (local_columns callee) + helpers in
    let first : List LinearRow = bounds p.made (types_of (local_columns callee)) in
    let second : List LinearRow = bounds olds (types_of (old_part callee)) in
    let gs : List ℕ = map (slice_index p.here) (variables_of callee) in
    let a : length part.own ≡ length rows = length-map rows _ in
    let b : length part.entries ≡ length gs = entries_counted olds gs in
    let c : length gs ≡ length (variables_of callee) = length-map (variables_of callee) (slice_index p.here) in
    let d : length first ≡ bounds_in (local_columns callee) = types_counted p.made (local_columns callee) ∙ sym (types_counted 0 (local_columns callee)) in
    let e : length second ≡ bounds_in (old_part callee) = types_counted olds (old_part callee) ∙ sym (types_counted 0 (old_part callee)) in
    let f : length part.bounds ≡ length first + length second = length-append first second in
    let h : length (part.entries ++ part.bounds) ≡ length part.entries + length part.bounds = length-append part.entries part.bounds in
    let i : length (part_rows part) ≡ length part.own + length (part.entries ++ part.bounds) = length-append part.own (part.entries ++ part.bounds) in
    omega (arith, a, b, c, d, e, f, h, i)

back_made : (caller callee : Columns) (targets : List ℕ) (made : ℕ) (exit : List ℕ) (saved : List (List ℕ)) → (back_part caller callee targets made exit saved).after.made ≡ made
back_made caller callee targets made exit [] = refl
back_made caller callee targets made exit (b ∷ saved) = refl

return_made : (al : Alphabet) (targets : List ℕ) (o : Option PlainAct) (p : PathStage) → (return_part al targets o p).after.made ≡ p.made
return_made al targets None p = refl
return_made al targets (Some (inside_act q written helpers rows)) p = refl
return_made al targets (Some (call_act caller callee helpers rows)) p = back_made (frame_of al caller) (frame_of al callee) targets p.made p.here p.saved
return_made al targets (Some (back_act c more)) p = refl

-- ---- letters

-- after a letter with this act
reads : (g : Graph) (w rest : List Letter) (a : Letter) (o : Option PlainAct) (r : numbers.Reading) (old new : Reading) → act_of (alphabet_of g) a ≡ o → IsReading g w r old → new.letters ≡ old.letters + 1 →
    (old.rows + length (part_rows (act_part (alphabet_of g) o r.stage)) ≡ new.rows) → ((act_part (alphabet_of g) o r.stage).after.made ≡ new.made) → AreCalls g w (open_after o r) (reverse new.calls.items) →
    IsReading g w (read_on (alphabet_of g) a rest r) new
reads g w rest a o r old new e h l rows made calls =
    let al : Alphabet = alphabet_of g in
    record {
      letters = (let x = h.letters in omega (arith, x, l));
      rows = ap (λ (x : ℕ). x + length (part_rows (part_of al a r.stage))) h.rows ∙ ap (λ (x : Option PlainAct). old.rows + length (part_rows (act_part al x r.stage))) e ∙ rows;
      made = ap (λ (x : Option PlainAct). (act_part al x r.stage).after.made) e ∙ made;
      calls = subst (λ (x : Option PlainAct). AreCalls g w (open_after x r) (reverse new.calls.items)) (sym e) calls;
    }

pub inside_passed : (g : Graph) (w rest : List Letter) (a : Letter) (r : numbers.Reading) (old new : Reading) (q : ℕ) (written : List ℕ) (helpers : ℕ) (rows : List LinearRow) (frame : Columns) (ws : List ℕ) (count : ℕ) →
    act_of (alphabet_of g) a ≡ Some (inside_act q written helpers rows) → frame ≡ frame_of (alphabet_of g) q → ws ≡ written → count ≡ length rows → IsReading g w r old → new.letters ≡ old.letters + 1 →
    new.rows ≡ old.rows + (count + length (bounds 0 (types_at frame ws))) → new.made ≡ old.made + (length ws + helpers) → new.calls.items ≡ old.calls.items →
    IsReading g w (read_on (alphabet_of g) a rest r) new
inside_passed g w rest a r old new q written helpers rows frame ws count e f k n h l rs ms cs =
    let al : Alphabet = alphabet_of g in
    let known : length (bounds 0 (types_at frame ws)) ≡ length (bounds 0 (types_at (frame_of al q) written)) =
    ap (λ (x : Columns). length (bounds 0 (types_at x ws))) f ∙ ap (λ (x : List ℕ). length (bounds 0 (types_at (frame_of al q) x))) k in
    let wide : length ws ≡ length written = ap (λ (x : List ℕ). length x) k in
    reads g w rest a (Some (inside_act q written helpers rows)) r old new e h l
    (let x = inside_rows (frame_of al q) written helpers rows r.stage in omega (arith, x, known, n, rs))
    (let x = h.made in omega (arith, x, wide, ms))
    (subst (λ (x : List OpenCall). AreCalls g w r.calls (reverse x)) (sym cs) h.calls)

pub call_passed : (g : Graph) (w rest : List Letter) (a : Letter) (r : numbers.Reading) (old new : Reading) (caller callee helpers : ℕ) (rows : List LinearRow) (frame : Columns) (count : ℕ) (c : OpenCall) →
    act_of (alphabet_of g) a ≡ Some (call_act caller callee helpers rows) → frame ≡ frame_of (alphabet_of g) callee → count ≡ length rows → IsReading g w r old → IsAt g w r.letters (position_here r) →
    new.letters ≡ old.letters + 1 → new.rows ≡ old.rows + (count + (length (filter is_variable frame) + (bounds_in (local_columns frame) + bounds_in (old_part frame)))) →
    new.made ≡ old.made + (length (local_columns frame) + (helpers + length (old_part frame))) → new.calls.items ≡ old.calls.items ++ c ∷ [] → c.at ≡ old.letters → c.rows ≡ old.rows → c.made ≡ old.made →
    IsReading g w (read_on (alphabet_of g) a rest r) new
call_passed g w rest a r old new caller callee helpers rows frame count c e f n h at l rs ms cs x y z =
    let al : Alphabet = alphabet_of g in
    let known : length (filter is_variable frame) + (bounds_in (local_columns frame) + bounds_in (old_part frame)) ≡
    length (variables_of (frame_of al callee)) + (bounds_in (local_columns (frame_of al callee)) + bounds_in (old_part (frame_of al callee))) =
    ap (λ (k : Columns). length (filter is_variable k) + (bounds_in (local_columns k) + bounds_in (old_part k))) f ∙
    ap (λ (n : ℕ). n + (bounds_in (local_columns (frame_of al callee)) + bounds_in (old_part (frame_of al callee)))) (sym (places_counted is_variable 0 (frame_of al callee))) in
    let wide : length (local_columns frame) + (helpers + length (old_part frame)) ≡ length (local_columns (frame_of al callee)) + (helpers + length (old_part (frame_of al callee))) =
    ap (λ (k : Columns). length (local_columns k) + (helpers + length (old_part k))) f in
    let call : IsCall g w (record { number = suc r.letters; rows = r.rows; made = r.stage.made; before = position_here r }) c = record {
      number = ap suc (h.letters ∙ sym x);
      rows = h.rows ∙ sym y;
      made = h.made ∙ sym z;
      before = subst (λ (k : ℕ). IsAt g w k (position_here r)) (h.letters ∙ sym x) at;
    } in
    reads g w rest a (Some (call_act caller callee helpers rows)) r old new e h l
    (let k = call_rows (frame_of al callee) helpers rows r.stage in omega (arith, k, known, n, rs))
    (let k = h.made in omega (arith, k, wide, ms))
    (subst (λ (k : List OpenCall). AreCalls g w (record { number = suc r.letters; rows = r.rows; made = r.stage.made; before = position_here r } ∷ r.calls) k)
    (sym (ap reverse cs ∙ reverse-append old.calls.items (c ∷ []))) (call, h.calls))

calls_back : (g : Graph) (w : List Letter) (os : List numbers.OpenCall) (cs : List OpenCall) (r : numbers.Reading) (c : ℕ) (targets : List ℕ) → r.calls ≡ os → AreCalls g w os cs →
    AreCalls g w (open_after (Some (back_act c targets)) r) (calls_left cs)
calls_back g w os cs r c targets e h = by_calls r.calls cs (subst (λ (x : List numbers.OpenCall). AreCalls g w x cs) (sym e) h)
  where
    by_calls : (os : List numbers.OpenCall) (cs : List OpenCall) → AreCalls g w os cs → AreCalls g w (open_after (Some (back_act c targets)) (record r { calls = os })) (calls_left cs)
    by_calls [] [] h = tt
    by_calls [] (d ∷ ds) h = absurd h
    by_calls (o ∷ os) [] h = absurd h
    by_calls (o ∷ os) (d ∷ ds) h = h.1

pub back_passed : (g : Graph) (w rest : List Letter) (a : Letter) (r : numbers.Reading) (old new : Reading) (c : ℕ) (targets : List ℕ) → act_of (alphabet_of g) a ≡ Some (back_act c targets) →
    IsReading g w r old → new.letters ≡ old.letters + 1 → new.rows ≡ old.rows → new.made ≡ old.made → reverse new.calls.items ≡ calls_left (reverse old.calls.items) →
    IsReading g w (read_on (alphabet_of g) a rest r) new
back_passed g w rest a r old new c targets e h l rs ms cs =
    let al : Alphabet = alphabet_of g in
    let none : length (part_rows (act_part al (Some (back_act c targets)) r.stage)) ≡ 0 = ap (λ (x : List LinearRow). length x) (return_rows al targets _ r.stage).0 in
    reads g w rest a (Some (back_act c targets)) r old new e h l
    (omega (arith, none, rs)) (return_made al targets _ r.stage ∙ h.made ∙ sym ms)
    (subst (AreCalls g w (open_after (Some (back_act c targets)) r)) (sym cs) (calls_back g w r.calls (reverse old.calls.items) r c targets refl h.calls))

-- ---- returns find their calls

pub kind_known : (al : Alphabet) (a : Letter) (act : PlainAct) → act_of al a ≡ Some act → a.kind ≡ kind_of act
kind_known al a act e = ap (λ (x : Letter). x.kind) (act_found al a act e).1

matched_by : (kind : Kind) (act : PlainAct) (r : numbers.Reading) (rest : ℕ → Bool) → kind ≡ kind_of act → goes_on kind (length r.calls) rest ≡ true → rest (length (open_after (Some act) r)) ≡ true
matched_by kind (inside_act q written helpers rows) r rest e h = subst (λ (k : Kind). goes_on k (length r.calls) rest ≡ true) e h
matched_by kind (call_act caller callee helpers rows) r rest e h = subst (λ (k : Kind). goes_on k (length r.calls) rest ≡ true) e h
matched_by kind (back_act c targets) r rest e h = by_calls r.calls (subst (λ (k : Kind). goes_on k (length r.calls) rest ≡ true) e h)
  where
    by_calls : (os : List numbers.OpenCall) → goes_on kinds.Back (length os) rest ≡ true → rest (length (open_after (Some (back_act c targets)) (record r { calls = os }))) ≡ true
    by_calls [] h = absurd (cc)
    by_calls (o ∷ os) h = h

pub matched_on : (al : Alphabet) (a : Letter) (act : PlainAct) (r : numbers.Reading) (rest : ℕ → Bool) → act_of al a ≡ Some act → goes_on a.kind (length r.calls) rest ≡ true →
    rest (length (open_after (act_of al a) r)) ≡ true
matched_on al a act r rest e h =
    subst (λ (o : Option PlainAct). rest (length (open_after o r)) ≡ true) (sym e) (matched_by a.kind act r rest (kind_known al a act e) h)

pub finds : (g : Graph) (w : List Letter) (kind : Kind) (os : List numbers.OpenCall) (cs : List OpenCall) (rest : ℕ → Bool) → AreCalls g w os cs → goes_on kind (length os) rest ≡ true → FindsCall kind cs
finds g w kinds.Inside os cs rest h m = tt
finds g w kinds.Call os cs rest h m = tt
finds g w kinds.Back [] cs rest h m = absurd (cc)
finds g w kinds.Back (o ∷ os) [] rest h m = absurd h
finds g w kinds.Back (o ∷ os) (c ∷ cs) rest h m = tt
