-- While a call is open, no row names the versions of its caller's columns behind the globals.
use Rattle.std.proofs.Common.{◌≡◌, ◌∙◌, ◌⊎◌, inl, inr, ℕ, suc, ◌+◌, ◌*◌, ◌<◌, ◌≤◌, pos, List, [], ◌∷◌, ◌++◌, length, map, drop, refl, sym, ap, subst, arith, Option, Some}
use Rattle.std.specs.Prelude.{slice_index}
use Rattle.std.specs.List.{AllByRecursion}
use Rattle.std.proofs.lemmas.List.{length-map}
use Rattle.math_facts.specs.Terms.{coefficient}
use Rattle.lin_rows.specs.Rows.{LinearRow}
use Rattle.lin_rows.specs.Tightening.{tightened}
use Rattle.nwa_base.specs.declared.letters.Kind.{Kind}
use Rattle.nwa_base.specs.declared.letters.Kind.TheVariants as kinds
use Rattle.nwa_base.specs.declared.letters.Letter.{Letter}
use Rattle.nwa_base.specs.Members.{Member}
use Rattle.nwa_base.specs.Acceptance.{AcceptsFrom, Follows}
use Rattle.letter_acts.specs.Frames.{Columns, variables_of}
use Rattle.letter_acts.specs.Acts.{PlainAct, call_act, back_act, frame_of, act_of}
use Rattle.letter_acts.specs.Invariant.{Graph, IsGraph, alphabet_of}
use Rattle.letter_acts.proofs.FrameLemmas.{variable_below}
use Rattle.letter_acts.specs.FrameRows.Rows.{bounds, types_of}
use Rattle.path_rows.specs.Versions.{PathStage, Part, part_rows, local_columns, old_part, call_part, part_of, act_part}
use Rattle.path_rows.specs.Paths.{repeated, path_along, path_of}
use Rattle.path_rows.proofs.DifferLemmas.{place_of, dropped_at, indexed_member}
use Rattle.path_rows.proofs.EdgeLemmas.{inside_acts, call_acts, back_acts}
use Rattle.nested_itp.specs.NestedPredicates.Stamps.{row_stamps, stamps_along, stamps_of}
use Rattle.nested_itp.proofs.NestedPredicates.StampLaws.{root_stamped}
use Rattle.nested_itp.specs.NestedRefutations.Numbers.{OpenCall, Reading, read_on, open_after}
use Rattle.nested_itp.proofs.NestedRefutations.RowsLaws.{AllPairs, pairs_joined}
use Rattle.nested_itp.proofs.NestedRefutations.NamesLaws.{NamesOnly, entries_named, bounds_named, all_joined}
use Rattle.nested_itp.proofs.NestedRefutations.LiveLaws.{Known, InSaved, letter_named}
use Rattle.nested_itp.proofs.NestedRefutations.ReadLaws.{IsEarly, ReadTo, stamps_from, rows_counted}
use Rattle.nested_itp.proofs.NestedRefutations.VersionLaws.{columns_count, places_differ}
use Rattle.nested_itp.proofs.NestedRefutations.LayoutLaws.{layout_of}
use Rattle.nested_itp.proofs.NestedRefutations.GoneLaws.{below_at, saved_below, saved_apart}
use Rattle.nested_itp.proofs.NestedRefutations.WordLaws.{HaveGlobals}
use Rattle.nested_itp.proofs.NestedRefutations.AlongLaws.{first_reading, Along}
use Rattle.nested_itp.proofs.NestedRefutations.InsideColumnLaws.{all_repeated, length-repeated}
use Rattle.nested_itp.proofs.NestedRefutations.InsideLeafLaws.{NotNamed, no_stamp, all_weaker}
use Rattle.nested_itp.proofs.NestedRefutations.CallAtLaws.{CallAt, call_at, call_part_is}
use Rattle.nested_itp.proofs.NestedRefutations.OpenLaws.{Stacked}
use Rattle.nested_itp.proofs.NestedRefutations.BackAtLaws.{BackAt, back_at, back_part_is}

-- behind what a call makes in its caller, and before the next letter
abbrev pub IsBetween : ℕ → ℕ → ℕ → Type 0
IsBetween number letters s = (2 * number < s) × (2 < s) × (s < 2 * suc letters)

-- rows of the word with such stamps do not name it
abbrev pub IsQuiet : Graph → List Letter → ℕ → ℕ → ℕ → Type 0
IsQuiet g w number letters y = NotNamed (IsBetween number letters) y (path_of g w).rows (stamps_of g w).rows

abbrev pub QuietFrom : Graph → ℕ → List Letter → ℕ → List OpenCall → List (List ℕ) → Type 0
QuietFrom g globals w letters [] saved = Unit {0}
QuietFrom g globals w letters (c ∷ calls) [] = Unit {0}
QuietFrom g globals w letters (c ∷ calls) (v ∷ saved) = ((y : ℕ) → Member (drop globals v) y → IsQuiet g w c.number letters y) × QuietFrom g globals w letters calls saved

-- of each open call, with the versions before it
abbrev pub Quiet : Graph → ℕ → List Letter → Reading → Type 0
Quiet g globals w r = QuietFrom g globals w r.letters r.calls r.stage.saved

-- ---- rows in parts

pairs_parted : {X Y : Type 0} (P : X → Y → Type 0) (xs us : List X) (ys vs : List Y) → length ys ≡ length xs → AllPairs P (xs ++ us) (ys ++ vs) → AllPairs P xs ys × AllPairs P us vs
pairs_parted P [] us [] vs l h = (tt, h)
pairs_parted P [] us (y ∷ ys) vs l h = absurd (omega (arith, l))
pairs_parted P (x ∷ xs) us [] vs l h = absurd (omega (arith, l))
pairs_parted P (x ∷ xs) us (y ∷ ys) vs l h = let r = pairs_parted P xs us ys vs (omega (arith, l)) h.1 in ((h.0, r.0), r.1)

pub stamps_weaker : (P Q : ℕ → Type 0) (y : ℕ) (rows : List LinearRow) (ss : List ℕ) → NotNamed P y rows ss → AllByRecursion (λ s. Q s → P s) ss → NotNamed Q y rows ss
stamps_weaker P Q y [] [] h k = tt
stamps_weaker P Q y [] (s ∷ ss) h k = absurd h
stamps_weaker P Q y (r ∷ rows) [] h k = absurd h
stamps_weaker P Q y (r ∷ rows) (s ∷ ss) h k = ((λ q. h.0 (k.0 q)), stamps_weaker P Q y rows ss h.1 k.1)

-- rows that do not name it at all
pub never_named : (P : ℕ → Type 0) (y : ℕ) (rows : List LinearRow) (ss : List ℕ) → length ss ≡ length rows → AllByRecursion (λ r. coefficient y r.terms ≡ pos 0) rows → NotNamed P y rows ss
never_named P y [] [] l h = tt
never_named P y [] (s ∷ ss) l h = absurd (omega (arith, l))
never_named P y (r ∷ rows) [] l h = absurd (omega (arith, l))
never_named P y (r ∷ rows) (s ∷ ss) l h = ((λ p. h.0), never_named P y rows ss (omega (arith, l)) h.1)

-- the rows of the word with other stamps: those before a letter, its own and later ones
parts_quiet : (g : Graph) (w : List Letter) (r : Reading) (a : Letter) (rest : List Letter) → ReadTo g w r (a ∷ rest) → (P Q : ℕ → Type 0) (y : ℕ) → NotNamed P y (path_of g w).rows (stamps_of g w).rows →
    ((s : ℕ) → IsEarly r.letters s → Q s → P s) →
    NotNamed Q y (part_rows (part_of (alphabet_of g) a r.stage)) (row_stamps (suc r.letters) (act_of (alphabet_of g) a) (part_of (alphabet_of g) a r.stage)) →
    ((s : ℕ) → 2 * suc (suc r.letters) ≤ s → Q s → P s) → NotNamed Q y (path_of g w).rows (stamps_of g w).rows
parts_quiet g w r a rest h P Q y all front block later =
    let al = alphabet_of g in
    let part : Part = part_of al a r.stage in
    let now : List ℕ = row_stamps (suc r.letters) (act_of al a) part in
    let rows : List LinearRow = (path_along al (suc (suc r.letters)) part.after rest).rows in
    let stamps : List ℕ = (stamps_along al (suc (suc r.letters)) part.after rest).rows in
    let R : LinearRow → ℕ → Type 0 = λ x s. P s → coefficient y x.terms ≡ pos 0 in
    let S : LinearRow → ℕ → Type 0 = λ x s. Q s → coefficient y x.terms ≡ pos 0 in
    let whole : AllPairs R (h.front ++ (part_rows part ++ rows)) (h.early ++ (now ++ stamps)) =
    subst (λ (l : List LinearRow). AllPairs R l (h.early ++ (now ++ stamps))) h.rows (subst (AllPairs R (path_of g w).rows) h.stamps all) in
    let one = pairs_parted R h.front (part_rows part ++ rows) h.early (now ++ stamps) h.early_count whole in
    let two = pairs_parted R (part_rows part) rows now stamps (rows_counted (suc r.letters) (act_of al a) part) one.1 in
    let new_front = stamps_weaker P Q y h.front h.early one.0 (all_weaker (IsEarly r.letters) (λ s. Q s → P s) front h.early h.early_within) in
    let new_later = stamps_weaker P Q y rows stamps two.1 (all_weaker (λ s. 2 * suc (suc r.letters) ≤ s) (λ s. Q s → P s) later stamps (stamps_from al (suc (suc r.letters)) part.after rest).0) in
    let joined = pairs_joined S h.front h.early (part_rows part ++ rows) (now ++ stamps) new_front (pairs_joined S (part_rows part) now rows stamps block new_later) in
    subst (λ (l : List LinearRow). AllPairs S l (stamps_of g w).rows) (sym h.rows) (subst (AllPairs S (h.front ++ (part_rows part ++ rows))) (sym h.stamps) joined)

-- ---- calls that were open

-- the version is made, and is none of the frame's
abbrev pub IsAway : PathStage → ℕ → Type 0
IsAway p y = (y < p.made) × (Member p.here y → ⊥)

away_unnamed : (p : PathStage) (made y : ℕ) → IsAway p y → (rows : List LinearRow) → AllByRecursion (NamesOnly (Known p made)) rows → AllByRecursion (λ r. coefficient y r.terms ≡ pos 0) rows
away_unnamed p made y w rows h = all_weaker (NamesOnly (Known p made)) (λ r. coefficient y r.terms ≡ pos 0) (λ r f. f y (λ k. off w k)) rows h
  where
    off : (y < p.made) × (Member p.here y → ⊥) → Known p made y → ⊥
    off w (inl k) = let a = w.0 in let b = k.0 in omega (arith, a, b)
    off w (inr m) = w.1 m

one_older : (g : Graph) (globals : ℕ) (w : List Letter) (r : Reading) (a : Letter) (rest : List Letter) → Along g globals w r (a ∷ rest) → (number y : ℕ) → IsAway r.stage y → IsQuiet g w number r.letters y →
    IsQuiet g w number (suc r.letters) y
one_older g globals w r a rest h number y away quiet =
    let al = alphabet_of g in
    let part : Part = part_of al a r.stage in
    parts_quiet g w r a rest h.read (IsBetween number r.letters) (IsBetween number (suc r.letters)) y quiet
    (λ s e q. early s e q)
    (never_named (IsBetween number (suc r.letters)) y (part_rows part) (row_stamps (suc r.letters) (act_of al a) part) (rows_counted (suc r.letters) (act_of al a) part)
    (away_unnamed r.stage part.after.made y away (part_rows part) (letter_named al (act_of al a) r.stage h.names.0.0)))
    (λ s l q. (let k = q.2 in absurd (omega (arith, l, k))))
  where
    early : (s : ℕ) → IsEarly r.letters s → IsBetween number (suc r.letters) s → IsBetween number r.letters s
    early s (two, inl e) q = let k = q.1 in absurd (omega (arith, e, k))
    early s (two, inr e) q = (q.0, q.1, omega (arith, e))

older : (g : Graph) (globals : ℕ) (w : List Letter) (r : Reading) (a : Letter) (rest : List Letter) → Along g globals w r (a ∷ rest) → (calls : List OpenCall) (saved : List (List ℕ)) →
    ((y k : ℕ) → InSaved globals k saved y → IsAway r.stage y) → QuietFrom g globals w r.letters calls saved → QuietFrom g globals w (suc r.letters) calls saved
older g globals w r a rest h [] saved f q = tt
older g globals w r a rest h (c ∷ calls) [] f q = tt
older g globals w r a rest h (c ∷ calls) (v ∷ saved) f q = (
  λ y m. one_older g globals w r a rest h c.number y (f y 1 (inl m)) (q.0 y m),
  older g globals w r a rest h calls saved (λ y k i. f y (suc k) (inr i)) q.1,
)

saved_away : (g : Graph) (globals : ℕ) → HaveGlobals g globals → (w : List Letter) (r : Reading) (a : Letter) (rest : List Letter) → Along g globals w r (a ∷ rest) → (y k : ℕ) → InSaved globals k r.stage.saved y → IsAway r.stage y
saved_away g globals have w r a rest h y k i = (
  saved_below g globals r.stage.made h.goes.places r.stage.saved r.stage.here h.goes.comes.saved k y i,
  λ m. (let s = place_of r.stage.here y m in
      saved_apart g globals have r.stage.made h.goes.places r.stage.saved r.stage.here h.goes.comes.saved k s.at s.within (subst (InSaved globals k r.stage.saved) (sym s.there) i)),
)

-- ---- a new call

counted_rows : (g : Graph) (w : List Letter) → length (stamps_of g w).rows ≡ length (path_of g w).rows
counted_rows g w = (root_stamped (2 * (2 + length w)) g w (omega arith) (omega arith)).as_many ∙ length-map (path_of g w).rows tightened

none_stamped : (ss : List ℕ) → AllByRecursion (λ s. ⊥ → ⊥) ss
none_stamped [] = tt
none_stamped (s ∷ ss) = ((λ z. z), none_stamped ss)

-- what a call makes for its callee does not name what the caller has behind its globals
entry_quiet : (g : Graph) (globals : ℕ) → HaveGlobals g globals → (w : List Letter) (r : Reading) (a : Letter) (rest : List Letter) (caller callee helpers : ℕ) (rows : List LinearRow) →
    (at : CallAt g globals w r a rest caller callee helpers rows) → (y : ℕ) → Member (drop globals r.stage.here) y →
    NotNamed (IsBetween (suc r.letters) (suc r.letters)) y (part_rows (call_part (frame_of (alphabet_of g) callee) helpers rows r.stage))
    (row_stamps (suc r.letters) (Some (call_act caller callee helpers rows)) (call_part (frame_of (alphabet_of g) callee) helpers rows r.stage))
entry_quiet g globals have w r a rest caller callee helpers rows at y m =
    let f : Columns = frame_of (alphabet_of g) callee in
    let part : Part = call_part f helpers rows r.stage in
    let k : ℕ = suc r.letters in
    let Q : ℕ → Type 0 = IsBetween k k in
    let S : LinearRow → ℕ → Type 0 = λ x s. Q s → coefficient y x.terms ≡ pos 0 in
    let olds_at : ℕ = r.stage.made + length (local_columns f) + helpers in
    let ties : List ℕ = map (slice_index r.stage.here) (variables_of f) in
    let s = dropped_at globals r.stage.here y m in
    let below : y < r.stage.made = subst (λ (z : ℕ). z < r.stage.made) s.there (below_at r.stage.made r.stage.here s.at at.versions.below s.within) in
    pairs_joined S part.own (repeated (2 * k) (length part.own)) (part.entries ++ part.bounds) (repeated (suc (2 * k)) (length (part.entries ++ part.bounds)))
    (no_stamp Q y part.own (repeated (2 * k) (length part.own)) (length-repeated (2 * k) (length part.own))
    (all_repeated (λ x. Q x → ⊥) (2 * k) (length part.own) (λ q. (let l = q.0 in omega (arith, l)))))
    (never_named Q y (part.entries ++ part.bounds) (repeated (suc (2 * k)) (length (part.entries ++ part.bounds))) (length-repeated (suc (2 * k)) (length (part.entries ++ part.bounds)))
    (all_joined (λ x. coefficient y x.terms ≡ pos 0) part.entries part.bounds
    (all_weaker (NamesOnly (λ x. ((olds_at ≤ x) × (x < olds_at + length ties)) ⊎ Member ties x)) (λ x. coefficient y x.terms ≡ pos 0) (λ x h. h y (λ e. off_entry olds_at (omega arith) below (length ties) e)) part.entries (entries_named olds_at ties))
    (all_joined (λ x. coefficient y x.terms ≡ pos 0) (bounds r.stage.made (types_of (local_columns f))) (bounds olds_at (types_of (old_part f)))
    (all_weaker (NamesOnly (λ x. (r.stage.made ≤ x) × (x < r.stage.made + length (types_of (local_columns f))))) (λ x. coefficient y x.terms ≡ pos 0)
    (λ x h. h y (λ e. (let l = e.0 in omega (arith, l, below)))) (bounds r.stage.made (types_of (local_columns f))) (bounds_named r.stage.made (types_of (local_columns f))))
    (all_weaker (NamesOnly (λ x. (olds_at ≤ x) × (x < olds_at + length (types_of (old_part f))))) (λ x. coefficient y x.terms ≡ pos 0)
    (λ x h. h y (λ e. (let l = e.0 in omega (arith, l, below)))) (bounds olds_at (types_of (old_part f))) (bounds_named olds_at (types_of (old_part f)))))))
  where
    -- a global has a version of its own
    off_tie : Member (map (slice_index r.stage.here) (variables_of (frame_of (alphabet_of g) callee))) y → ⊥
    off_tie t =
        let i = indexed_member r.stage.here (variables_of (frame_of (alphabet_of g) callee)) y t in
        let v = variable_below at.infos (frame_of (alphabet_of g) callee) at.to_frame i.0 i.1 in
        let count : length at.infos ≡ globals =
        sym (ap (λ (l : List ℕ). length l) (layout_of at.infos (frame_of (alphabet_of g) callee) at.to_frame).globals ∙ columns_count 0 (length at.infos)) ∙ have callee at.acted.callee_exists in
        let s = dropped_at globals r.stage.here y m in
        let low = s.from_low in
        let within = s.within in
        let same : i.0 ≡ s.at = places_differ r.stage.here at.versions.differ i.0 s.at (omega (arith, v, count, low, within)) within (i.2 ∙ sym s.there) in
        omega (arith, v, count, low, same)

    off_entry : (n : ℕ) → r.stage.made ≤ n → y < r.stage.made → (len : ℕ) → ((n ≤ y) × (y < n + len)) ⊎ Member (map (slice_index r.stage.here) (variables_of (frame_of (alphabet_of g) callee))) y → ⊥
    off_entry n b below len (inl e) = let l = e.0 in omega (arith, l, below, b)
    off_entry n b below len (inr t) = off_tie t

new_call : (g : Graph) (globals : ℕ) → HaveGlobals g globals → (w : List Letter) (r : Reading) (a : Letter) (rest : List Letter) → Along g globals w r (a ∷ rest) → (caller callee helpers : ℕ) (rows : List LinearRow) →
    CallAt g globals w r a rest caller callee helpers rows → (y : ℕ) → Member (drop globals r.stage.here) y → IsQuiet g w (suc r.letters) (suc r.letters) y
new_call g globals have w r a rest h caller callee helpers rows at y m =
    let k : ℕ = suc r.letters in
    let Q : ℕ → Type 0 = IsBetween k k in
    parts_quiet g w r a rest h.read (λ s. ⊥) Q y (no_stamp (λ s. ⊥) y (path_of g w).rows (stamps_of g w).rows (counted_rows g w) (none_stamped (stamps_of g w).rows))
    (λ s e q. early s e q)
    (subst (λ (z : Part). NotNamed Q y (part_rows z) (row_stamps k (act_of (alphabet_of g) a) z)) (sym (call_part_is g globals w r a rest caller callee helpers rows at))
    (subst (λ (o : Option PlainAct). NotNamed Q y (part_rows (call_part (frame_of (alphabet_of g) callee) helpers rows r.stage)) (row_stamps k o (call_part (frame_of (alphabet_of g) callee) helpers rows r.stage))) (sym at.act_is)
    (entry_quiet g globals have w r a rest caller callee helpers rows at y m)))
    (λ s l q. (let b = q.2 in omega (arith, l, b)))
  where
    early : (s : ℕ) → IsEarly r.letters s → IsBetween (suc r.letters) (suc r.letters) s → ⊥
    early s (two, inl e) q = let b = q.1 in omega (arith, e, b)
    early s (two, inr e) q = let b = q.0 in omega (arith, e, b)

-- ---- along the word

pub quiet_next : (g : Graph) → IsGraph g → (globals : ℕ) → HaveGlobals g globals → (w : List Letter) (r : Reading) (a : Letter) (rest : List Letter) → Along g globals w r (a ∷ rest) → Stacked g globals w r (a ∷ rest) →
    Quiet g globals w r → Quiet g globals w (read_on (alphabet_of g) a rest r)
quiet_next g ok globals have w r a rest h t quiet = by_kind a.kind refl h.placed.places h.placed.accepts.1
  where
    by_kind : (kind : Kind) → a.kind ≡ kind → (places : List ℕ) → Follows g.automaton kind a places h.placed.from h.placed.accepts.0 (λ st. AcceptsFrom g.automaton st h.placed.accepts.0 rest) →
        QuietFrom g globals w (suc r.letters) (open_after (act_of (alphabet_of g) a) r) (act_part (alphabet_of g) (act_of (alphabet_of g) a) r.stage).after.saved
    by_kind kinds.Inside k places f =
        let x = inside_acts g ok h.placed.from h.placed.accepts.0 a f.0 in
        subst (λ (o : Option PlainAct). QuietFrom g globals w (suc r.letters) (open_after o r) (act_part (alphabet_of g) o r.stage).after.saved) (sym x.act_is)
        (older g globals w r a rest h r.calls r.stage.saved (λ y k i. saved_away g globals have w r a rest h y k i) quiet)
    by_kind kinds.Call k places f =
        let x = call_acts g ok h.placed.from h.placed.accepts.0 a f.0 in
        let at = call_at g ok globals w r a rest h x.known.caller x.known.callee x.known.helpers x.known.rows x.act_is in
        subst (λ (o : Option PlainAct). QuietFrom g globals w (suc r.letters) (open_after o r) (act_part (alphabet_of g) o r.stage).after.saved) (sym x.act_is) (
          λ y m. new_call g globals have w r a rest h x.known.caller x.known.callee x.known.helpers x.known.rows at y m,
          older g globals w r a rest h r.calls r.stage.saved (λ y k i. saved_away g globals have w r a rest h y k i) quiet,
        )
    by_kind kinds.Back k [] f = absurd f
    by_kind kinds.Back k (p ∷ places) f =
        let x = back_acts g ok h.placed.from p h.placed.accepts.0 a k f.0 in
        by_open x.known.targets x.act_is (back_at g ok globals w r a rest h t a.call x.known.targets x.act_is)
      where
        by_open : (targets : List ℕ) → act_of (alphabet_of g) a ≡ Some (back_act a.call targets) → BackAt g globals w r a rest targets →
            QuietFrom g globals w (suc r.letters) (open_after (act_of (alphabet_of g) a) r) (act_part (alphabet_of g) (act_of (alphabet_of g) a) r.stage).after.saved
        by_open targets e b =
            let calls_are : open_after (act_of (alphabet_of g) a) r ≡ b.calls =
            ap (λ (o : Option PlainAct). open_after o r) e ∙ ap (λ (cs : List OpenCall). open_after (Some (back_act a.call targets)) (record r { calls = cs })) b.calls_are in
            let part = back_part_is g globals w r a rest targets b in
            let before : QuietFrom g globals w r.letters (b.call ∷ b.calls) (b.before ∷ b.saved) =
            subst (λ (cs : List OpenCall). QuietFrom g globals w r.letters cs (b.before ∷ b.saved)) b.calls_are (subst (QuietFrom g globals w r.letters r.calls) b.saved_are quiet) in
            subst (λ (cs : List OpenCall). QuietFrom g globals w (suc r.letters) cs (act_part (alphabet_of g) (act_of (alphabet_of g) a) r.stage).after.saved) (sym calls_are)
            (subst (λ (z : Part). QuietFrom g globals w (suc r.letters) b.calls z.after.saved) (sym part)
            (older g globals w r a rest h b.calls b.saved
            (λ y k i. saved_away g globals have w r a rest h y (suc k) (subst (λ (l : List (List ℕ)). InSaved globals (suc k) l y) (sym b.saved_are) (inr i))) before.1))

-- at the start no call is open
pub quiet_start : (g : Graph) (globals : ℕ) (w : List Letter) → Quiet g globals w (first_reading g)
quiet_start g globals w = tt

-- the versions before the innermost call
pub quiet_here : (g : Graph) (globals : ℕ) (w : List Letter) (r : Reading) (a : Letter) (rest : List Letter) (targets : List ℕ) (b : BackAt g globals w r a rest targets) → Quiet g globals w r →
    (y : ℕ) → Member (drop globals b.open_at.reading.stage.here) y → IsQuiet g w (suc b.open_at.reading.letters) r.letters y
quiet_here g globals w r a rest targets b quiet y m =
    let first : QuietFrom g globals w r.letters (b.call ∷ b.calls) (b.before ∷ b.saved) =
    subst (λ (cs : List OpenCall). QuietFrom g globals w r.letters cs (b.before ∷ b.saved)) b.calls_are (subst (QuietFrom g globals w r.letters r.calls) b.saved_are quiet) in
    subst (λ (n : ℕ). IsQuiet g w n r.letters y) (ap (λ (c : OpenCall). c.number) b.open_at.call_is) (first.0 y (subst (λ (v : List ℕ). Member (drop globals v) y) (sym b.open_at.before_is) m))
