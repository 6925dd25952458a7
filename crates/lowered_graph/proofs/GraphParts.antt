-- The sites, the procedures and the frames of a program's graph.
use Rattle.std.proofs.Common.{◌≡◌, ◌∙◌, ℕ, zero, suc, ◌+◌, ◌<◌, ◌≤◌, List, [], ◌∷◌, ◌++◌, map, length, Option, None, Some, inl, inr, refl, sym, ap, subst, arith, IsTrue}
use Rattle.std.specs.Prelude.{slice_get}
use Rattle.std.specs.List.{AllByRecursion}
use Rattle.std.specs.Option.{option_map}
use Rattle.std.proofs.lemmas.List.{length-append, length-map}
use Rattle.typed_tree.specs.TypedTree.{TypedBlock, TypedProcedure, TypedProgram}
use Rattle.typed_tree.specs.TypingRules.ValidProgram.{is_valid}
use Rattle.typed_tree.proofs.TypingRules.ValidLaws as valid
use Rattle.nwa_base.specs.Members.{Member}
use Rattle.letter_acts.specs.declared.sites.Site.{Site}
use Rattle.letter_acts.specs.Frames.{IsFrame, ConstantsFirst}
use Rattle.letter_acts.specs.Invariant.{AreDistinct, IsPlaceOf, HasBody, HaveBodies, HasProcedures, AreFrames, AreNumbered, site_places, HasSites}
use Rattle.boogie_run.specs.BoogiePoints.Points.{Point}
use Rattle.boogie_run.specs.BoogiePoints.Actions as actions
use Rattle.boogie_run.specs.BoogiePoints.Actions.{Action, action_at}
use Rattle.boogie_run.specs.BoogiePoints.Starts.{point_of_call}
use Rattle.boogie_run.specs.BoogiePlaces.Places.{count_from, Place, number_of, program_places, IsPlaceIn}
use Rattle.boogie_run.specs.Needs.{locals_at}
use Rattle.lowered_graph.specs.LoweredSteps.ProgramFrames.{frame_at}
use Rattle.lowered_graph.specs.Arcs.{place_number, first_error, error_place, return_place, return_point}
use Rattle.lowered_graph.specs.Lowered.{action_sites, sites_of, program_sites, counted_procs, entry_of, exit_of, place_owners, lowered}
use Rattle.lowered_graph.proofs.Lists.{get_front}
use Rattle.lowered_graph.proofs.KnownPlaces.{PlaceLaws, IsKnown, place_known, known_place, known_entry}
use Rattle.lowered_graph.proofs.CallPlaces.{return_known}
use Rattle.lowered_graph.proofs.Alphabet.{letters_of, proc_exists}
use Rattle.lowered_graph.proofs.SiteNumbers.{number_of_site, sites_numbered, site_place}
use Rattle.lowered_graph.proofs.Lists.{member_either}
use Rattle.letter_acts.proofs.ListLemmas.{all_append, all_from_members}

-- ---- sites

numbered_so : (n k : ℕ) (ss : List (ℕ × Site)) → map number_of_site ss ≡ count_from n k → AreNumbered n (map (λ s. s.1) ss)
numbered_so n k [] e = tt
numbered_so n zero (s ∷ ss) e = cc
numbered_so n (suc k) (s ∷ ss) e =
    let first : s.1.id.number ≡ n = cc in
    let rest : map number_of_site ss ≡ count_from (n + 1) k = cc in
    let next : n + 1 ≡ suc n = omega arith in
    (first, subst (λ (m : ℕ). AreNumbered m (map (λ s. s.1) ss)) next (numbered_so (n + 1) k ss rest))

-- each stands at the place of its number
abbrev ArePlaced : TypedProgram → List (ℕ × Site) → Type 0
ArePlaced t ss = AllByRecursion (λ s. s.1.place ≡ error_place t s.1.id.number) ss

later_places : (t : TypedProgram) (n k : ℕ) (ss : List (ℕ × Site)) (x : ℕ) → 1 ≤ n → map number_of_site ss ≡ count_from n k → ArePlaced t ss → Member (site_places (map (λ s. s.1) ss)) x → error_place t n ≤ x
later_places t n k [] x l e h m = absurd m
later_places t n zero (s ∷ ss) x l e h m = cc
later_places t n (suc k) (s ∷ ss) x l e h (inl is) =
    let first : s.1.id.number ≡ n = cc in
    let here : s.1.place ≡ error_place t n = h.0 ∙ ap (error_place t) first in
    omega arith
later_places t n (suc k) (s ∷ ss) x l e h (inr m) =
    let rest : map number_of_site ss ≡ count_from (n + 1) k = cc in
    let later : error_place t (n + 1) ≤ x = later_places t (n + 1) k ss x (omega arith) rest h.1 m in
    omega arith

places_differ : (t : TypedProgram) (n k : ℕ) (ss : List (ℕ × Site)) → 1 ≤ n → map number_of_site ss ≡ count_from n k → ArePlaced t ss → AreDistinct (site_places (map (λ s. s.1) ss))
places_differ t n k [] l e h = tt
places_differ t n zero (s ∷ ss) l e h = cc
places_differ t n (suc k) (s ∷ ss) l e h =
    let first : s.1.id.number ≡ n = cc in
    let rest : map number_of_site ss ≡ count_from (n + 1) k = cc in
    let here : s.1.place ≡ error_place t n = h.0 ∙ ap (error_place t) first in (
      λ m. (let later : error_place t (n + 1) ≤ s.1.place = later_places t (n + 1) k ss s.1.place (omega arith) rest h.1 m in omega arith),
      places_differ t (n + 1) k ss (omega arith) rest h.1,
    )

pub has_sites : (t : TypedProgram) → IsTrue (is_valid t) → HasSites (lowered t)
has_sites t v = record {
  numbered = numbered_so 1 (length (program_sites t)) (program_sites t) (sites_numbered t v);
  differ = places_differ t 1 (length (program_sites t)) (program_sites t) (omega arith) (sites_numbered t v)
      (all_from_members (λ s. s.1.place ≡ error_place t s.1.id.number) (program_sites t) (λ s m. site_place t s m));
  finals = record { there = λ x m. m; back = λ x m. m };
}

-- ---- owners of places

by_number : (f : Place → ℕ) (xs : List Place) (n k : ℕ) (p : Place) → map f xs ≡ count_from n k → IsPlaceIn xs p → (i : ℕ) × (f p ≡ n + i) × (slice_get (map (λ x. x.proc) xs) i ≡ Some p.proc)
by_number f [] n k p e h = absurd h
by_number f (x ∷ xs) n zero p e h = cc
by_number f (x ∷ xs) n (suc k) p e (inl is) =
    let first : f x ≡ n = cc in
    let same : f x ≡ f p = ap f is in
    (0, (let g : f p ≡ n + 0 = omega arith in g), ap (λ (y : Place). Some y.proc) is)
by_number f (x ∷ xs) n (suc k) p e (inr m) =
    let rest : map f xs ≡ count_from (n + 1) k = cc in
    let h = by_number f xs (n + 1) k p rest m in
    let at : f p ≡ n + 1 + h.0 = h.1 in
    (suc h.0, (let g : f p ≡ n + suc h.0 = omega arith in g), h.2)

-- a known place belongs to its procedure
pub owner_is : (l : PlaceLaws) (t : TypedProgram) → IsTrue (is_valid t) → (n : ℕ) (p : Point) → IsKnown t n p → IsPlaceOf (place_owners t) n (place_number t n p)
owner_is l t v n p k =
    let h = by_number (number_of t) (program_places t) 1 (length (program_places t)) (record { proc = n; point = p }) (l.numbered t v) (known_place t n p k) in
    let at : place_number t n p ≡ suc h.0 = (let g : place_number t n p ≡ 1 + h.0 = h.1 in omega arith) in
    ap (slice_get (place_owners t)) at ∙ get_front (map (λ x. x.proc) (program_places t)) (map (λ s. s.0) (program_sites t)) h.0 n h.2

-- ---- procedures

counted_length : {X : Type 0} (f : ℕ × TypedProcedure → X) (k : ℕ) (qs : List TypedProcedure) → length (map f (counted_procs k qs)) ≡ length qs
counted_length f k [] = refl
counted_length f k (q ∷ qs) = ap suc (counted_length f (suc k) qs)

has_body : (l : PlaceLaws) (t : TypedProgram) → IsTrue (is_valid t) → (k : ℕ) (q : TypedProcedure) (o : Option TypedBlock) → slice_get t.procs k ≡ Some q → q.body ≡ o →
    HasBody (place_owners t) k (option_map (λ b. place_number t k (point_of_call t k (Some q))) o) (option_map (λ b. return_place t k) o)
has_body l t v k q None e b = tt
has_body l t v k q (Some b) e h =
    let entry : IsPlaceOf (place_owners t) k (place_number t k (point_of_call t k (slice_get t.procs k))) = owner_is l t v k (point_of_call t k (slice_get t.procs k)) (known_entry l t v k q b e h) in (
      subst (λ (o : Option TypedProcedure). IsPlaceOf (place_owners t) k (place_number t k (point_of_call t k o))) e entry,
      owner_is l t v k (return_point (slice_get t.procs k)) (return_known t k q b e h),
    )

have_bodies : (l : PlaceLaws) (t : TypedProgram) → IsTrue (is_valid t) → (k : ℕ) (qs : List TypedProcedure) → ((i : ℕ) (q : TypedProcedure) → slice_get qs i ≡ Some q → slice_get t.procs (k + i) ≡ Some q) →
    HaveBodies (place_owners t) k (map (entry_of t) (counted_procs k qs)) (map (exit_of t) (counted_procs k qs))
have_bodies l t v k [] h = tt
have_bodies l t v k (q ∷ qs) h =
    let here : k + 0 ≡ k = omega arith in
    let found : slice_get t.procs k ≡ Some q = subst (λ (m : ℕ). slice_get t.procs m ≡ Some q) here (h 0 q refl) in
    let later : (i : ℕ) (r : TypedProcedure) → slice_get qs i ≡ Some r → slice_get t.procs (suc k + i) ≡ Some r =
    λ i r e. subst (λ (m : ℕ). slice_get t.procs m ≡ Some r) (let s : k + suc i ≡ suc k + i = omega arith in s) (h (suc i) r e) in
    (has_body l t v k q q.body found refl, have_bodies l t v (suc k) qs later)

action_owner : (t : TypedProgram) (n : ℕ) (a : Action) (s : ℕ × Site) → Member (action_sites t n a) s → s.0 ≡ n
action_owner t n (actions.Check id at e next) s (inl is) = ap (λ (x : ℕ × Site). x.0) (sym is)
action_owner t n (actions.Check id at e next) s (inr m) = absurd m
action_owner t n (actions.Suppose e next) s m = absurd m
action_owner t n (actions.Demand id at e args next) s (inl is) = ap (λ (x : ℕ × Site). x.0) (sym is)
action_owner t n (actions.Demand id at e args next) s (inr m) = absurd m
action_owner t n (actions.Write cs es next) s m = absurd m
action_owner t n (actions.Guess c next) s m = absurd m
action_owner t n (actions.Test e hit miss) s m = absurd m
action_owner t n (actions.Pick ways) s m = absurd m
action_owner t n (actions.Jump next) s m = absurd m
action_owner t n (actions.Enter f args) s m = absurd m
action_owner t n (actions.Keep f args c next) s m = absurd m
action_owner t n (actions.Grant f args e next) s m = absurd m
action_owner t n (actions.Finish f args targets next) s m = absurd m
action_owner t n actions.Leave s m = absurd m

-- a site is owned by the procedure of its place
pub owner_of_site : (t : TypedProgram) (ps : List Place) (s : ℕ × Site) → Member (sites_of t ps) s → (p : Place) × IsPlaceIn ps p × (s.0 ≡ p.proc)
owner_of_site t [] s m = absurd m
owner_of_site t (p ∷ ps) s m = elim (member_either (action_sites t p.proc (action_at t p.proc p.point)) (sites_of t ps) s m) [
  | inl h ↦ (p, inl refl, action_owner t p.proc (action_at t p.proc p.point) s h)
  | inr h ↦ (let g = owner_of_site t ps s h in (g.0, inr g.1, g.2))
]

place_exists : (t : TypedProgram) → IsTrue (is_valid t) → (p : Place) → IsPlaceIn (program_places t) p → p.proc < length (letters_of t).frames
place_exists t v p m = let k = place_known t v p.proc p.point m in proc_exists t p.proc k.procedure k.is

places_exist : (t : TypedProgram) → (ps : List Place) → ((p : Place) → IsPlaceIn ps p → p.proc < length (letters_of t).frames) → AllByRecursion (λ n. n < length (letters_of t).frames) (map (λ p. p.proc) ps)
places_exist t [] h = tt
places_exist t (p ∷ ps) h = (h p (inl refl), places_exist t ps (λ r m. h r (inr m)))

sites_exist : (t : TypedProgram) → (ss : List (ℕ × Site)) → ((s : ℕ × Site) → Member ss s → s.0 < length (letters_of t).frames) → AllByRecursion (λ n. n < length (letters_of t).frames) (map (λ s. s.0) ss)
sites_exist t [] h = tt
sites_exist t (s ∷ ss) h = (h s (inl refl), sites_exist t ss (λ r m. h r (inr m)))

owned_exists : (t : TypedProgram) → IsTrue (is_valid t) → (s : ℕ × Site) → Member (program_sites t) s → s.0 < length (letters_of t).frames
owned_exists t v s m =
    let o = owner_of_site t (program_places t) s m in
    subst (λ (n : ℕ). n < length (letters_of t).frames) (sym o.2) (place_exists t v o.0 o.1)

pub has_procedures : (l : PlaceLaws) (t : TypedProgram) → IsTrue (is_valid t) → HasProcedures (lowered t)
has_procedures l t v =
    let entry = valid.entry t v in
    let frames : length (lowered t).frames ≡ length t.procs = counted_length (λ q. frame_at t q.0) 0 t.procs in
    let places : ℕ = length (program_places t) in
    let owners : length (map (λ p. p.proc) (program_places t) ++ map (λ s. s.0) (program_sites t)) ≡ places + length (program_sites t) =
    length-append (map (λ p. p.proc) (program_places t)) (map (λ s. s.0) (program_sites t))
    ∙ ap (λ (k : ℕ). k + length (map (λ s. s.0) (program_sites t))) (length-map (program_places t) (λ p. p.proc)) ∙ ap (λ (k : ℕ). places + k) (length-map (program_sites t) (λ s. s.0)) in
    let sites : length (map (λ s. s.1) (program_sites t)) ≡ length (program_sites t) = length-map (program_sites t) (λ s. s.1) in
    record {
      names = length-map t.procs (λ q. q.name) ∙ sym frames;
      entries = counted_length (entry_of t) 0 t.procs ∙ sym frames;
      exits = counted_length (exit_of t) 0 t.procs ∙ sym frames;
      place_procs = (let e : suc (length (map (λ p. p.proc) (program_places t) ++ map (λ s. s.0) (program_sites t))) ≡ first_error t + length (map (λ s. s.1) (program_sites t)) = omega arith in e);
      procs_exist = (
        proc_exists t t.entry entry.0 entry.2,
        all_append (λ n. n < length (letters_of t).frames) (map (λ p. p.proc) (program_places t)) (map (λ s. s.0) (program_sites t))
            (places_exist t (program_places t) (λ p m. place_exists t v p m)) (sites_exist t (program_sites t) (λ s m. owned_exists t v s m)),
      );
      bodies = have_bodies l t v 0 t.procs (λ i q e. subst (λ (m : ℕ). slice_get t.procs m ≡ Some q) (let z : i ≡ 0 + i = omega arith in z) e);
      start = refl;
    }

-- ---- frames

frames_laid_out : (t : TypedProgram) → ((n : ℕ) → ConstantsFirst (locals_at t n)) → (k : ℕ) (qs : List TypedProcedure) → AllByRecursion (IsFrame t.globals) (map (λ q. frame_at t q.0) (counted_procs k qs))
frames_laid_out t first k [] = tt
frames_laid_out t first k (q ∷ qs) = (record { locals = locals_at t k; columns = refl; parameters_first = first k }, frames_laid_out t first (suc k) qs)

pub are_frames : (t : TypedProgram) → ((n : ℕ) → ConstantsFirst (locals_at t n)) → AreFrames (lowered t).frames
are_frames t first = record { globals = t.globals; laid_out = frames_laid_out t first 0 t.procs }
