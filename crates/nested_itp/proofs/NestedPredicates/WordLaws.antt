-- How far a word is read: the positions so far, and the versions at the next ones.
use Rattle.std.proofs.Common.{◌≡◌, ◌∙◌, ℕ, zero, suc, ◌+◌, ◌<◌, ◌≤◌, Bool, false, List, [], ◌∷◌, ◌++◌, length, map, drop, get_or, reverse, append_assoc, refl, sym, ap, subst, arith, Option}
use Rattle.std.proofs.lemmas.List.{append-nil, drop_more, map-append}
use Rattle.nwa_base.specs.declared.letters.Kind.{Kind}
use Rattle.nwa_base.specs.declared.letters.Kind.TheVariants.{Inside, Call, Back}
use Rattle.nwa_base.specs.declared.letters.Letter.{Letter}
use Rattle.letter_acts.specs.Acts.{PlainAct, Alphabet, act_of}
use Rattle.letter_acts.specs.Invariant.{Graph, alphabet_of}
use Rattle.path_rows.specs.Versions.{PathStage, part_of}
use Rattle.path_rows.specs.Paths.{start_frame, first_stage, path_along, path_of}
use Rattle.nested_itp.specs.declared.nested_predicates.spots.Spot.{Spot}
use Rattle.nested_itp.specs.NestedPredicates.Positions.{CallScope, has_return, scopes_after, callee_of, Position, innermost, position_at, positions_along, start_scope, positions_of}
use Rattle.nested_itp.specs.NestedPredicates.Positions as positions
use Rattle.nested_itp.specs.NestedPredicates.Walking.{return_tests}
use Rattle.nested_itp.specs.NestedPredicates.Spots.{spot_of, spot_at, innermost_spot, without_first, spots_after}

-- the positions behind the one after so many letters
abbrev pub later : Alphabet → ℕ → PathStage → List CallScope → List Letter → List Position
later al n p scopes [] = []
later al n p scopes (a ∷ w) =
    let after = (part_of al a p).after in
    positions_along al (suc n) after (scopes_after al (suc n) a.kind (act_of al a) w after.here p.here scopes) w

pub split_first : (al : Alphabet) (n : ℕ) (p : PathStage) (scopes : List CallScope) (w : List Letter) → positions_along al n p scopes w ≡ position_at n p scopes ∷ later al n p scopes w
split_first al n p scopes [] = refl
split_first al n p scopes (a ∷ w) = refl

-- i letters are read
pub record IsRead (g : Graph) (w : List Letter) (i : ℕ) : Type 0 where
  pub stage : PathStage
  pub scopes : List CallScope
  pub front : List Position
  pub whole : front ++ later (alphabet_of g) i stage scopes (drop i w) ≡ positions_of g w
  pub versions : drop i (path_of g w).states ≡ (path_along (alphabet_of g) (suc i) stage (drop i w)).states

abbrev pub start_read : (g : Graph) (w : List Letter) → IsRead g w 0
start_read g w = record {
  stage = first_stage (start_frame g);
  scopes = start_scope g ∷ [];
  front = position_at 0 (first_stage (start_frame g)) (start_scope g ∷ []) ∷ [];
  whole = sym (split_first (alphabet_of g) 0 (first_stage (start_frame g)) (start_scope g ∷ []) w);
  versions = refl;
}

abbrev pub front_letter : (w : List Letter) (i : ℕ) (a d : Letter) → i < length w → a ≡ get_or w i d → drop i w ≡ a ∷ drop (i + 1) w
front_letter w i a d l e = drop_more w i d l ∙ ap (λ (b : Letter). b ∷ drop (i + 1) w) (sym e)

pub dropped_once : (xs : List (List ℕ)) (i : ℕ) (x : List ℕ) (rest : List (List ℕ)) → drop i xs ≡ x ∷ rest → drop (i + 1) xs ≡ rest
dropped_once [] zero x rest e = absurd (cc)
dropped_once [] (suc i) x rest e = absurd (cc)
dropped_once (y ∷ xs) zero x rest e = cc
dropped_once (y ∷ xs) (suc i) x rest e = ap (λ (n : ℕ). drop n (y ∷ xs)) (let n : suc i + 1 ≡ suc (i + 1) = omega arith in n) ∙ dropped_once xs i x rest e

-- the scopes after the next letter
abbrev pub scopes_next : (g : Graph) (w : List Letter) (i : ℕ) (a : Letter) → PathStage → List CallScope → List CallScope
scopes_next g w i a p scopes =
    let al : Alphabet = alphabet_of g in
    scopes_after al (suc i) a.kind (act_of al a) (drop (i + 1) w) (part_of al a p).after.here p.here scopes

abbrev pub next_read : (g : Graph) (w : List Letter) (i : ℕ) (a : Letter) → drop i w ≡ a ∷ drop (i + 1) w → IsRead g w i → IsRead g w (i + 1)
next_read g w i a f h =
    let al : Alphabet = alphabet_of g in
    let after : PathStage = (part_of al a h.stage).after in
    let scopes : List CallScope = scopes_next g w i a h.stage h.scopes in
    let rest : List Letter = drop (i + 1) w in
    let n : suc i ≡ i + 1 = omega arith in
    let q : Position = position_at (i + 1) after scopes in
    record {
      stage = after;
      scopes = scopes;
      front = h.front ++ q ∷ [];
      whole =
          append_assoc h.front (q ∷ []) (later al (i + 1) after scopes rest) ∙
          ap (λ (l : List Position). h.front ++ l)
          (sym (split_first al (i + 1) after scopes rest) ∙ ap (λ (m : ℕ). positions_along al m after scopes rest) (sym n)) ∙
          subst (λ (v : List Letter). h.front ++ later al i h.stage h.scopes v ≡ positions_of g w) f h.whole;
      versions =
          dropped_once (path_of g w).states i h.stage.here (path_along al (suc (suc i)) after rest).states
          (subst (λ (v : List Letter). drop i (path_of g w).states ≡ (path_along al (suc i) h.stage v).states) f h.versions) ∙
          ap (λ (m : ℕ). (path_along al (suc m) after rest).states) n;
    }

dropped_all : (xs : List Letter) (i : ℕ) → length xs ≤ i → drop i xs ≡ []
dropped_all [] zero l = refl
dropped_all [] (suc i) l = refl
dropped_all (x ∷ xs) zero l = absurd (omega arith)
dropped_all (x ∷ xs) (suc i) l = dropped_all xs i (omega arith)

pub all_read : (g : Graph) (w : List Letter) (i : ℕ) → length w ≤ i → (h : IsRead g w i) → h.front ≡ positions_of g w
all_read g w i l h =
    sym (append-nil h.front) ∙ subst (λ (v : List Letter). h.front ++ later (alphabet_of g) i h.stage h.scopes v ≡ positions_of g w) (dropped_all w i l) h.whole

-- ---- the frames

pub record SpotsRead (g : Graph) (w : List Letter) (i : ℕ) (frames spots : List Spot) : Type 0 where
  pub read : IsRead g w i
  pub open_frames : reverse frames ≡ map spot_of read.scopes
  pub spots_so_far : spots ≡ map spot_at read.front

pub spots_start : (g : Graph) (w : List Letter) (s : Spot) (frames spots : List Spot) → s ≡ spot_of (start_scope g) → frames ≡ s ∷ [] → spots ≡ s ∷ [] → SpotsRead g w 0 frames spots
spots_start g w s frames spots e f h = record {
  read = start_read g w;
  open_frames = ap reverse f ∙ ap (λ (x : Spot). x ∷ []) e;
  spots_so_far = h ∙ ap (λ (x : Spot). x ∷ []) e;
}

left_mapped : (scopes : List CallScope) → without_first (map spot_of scopes) ≡ map spot_of (positions.left_scopes scopes)
left_mapped [] = refl
left_mapped (s ∷ scopes) = refl

spots_mapped : (al : Alphabet) (n : ℕ) (kind : Kind) (act : Option PlainAct) (rest : List Letter) (entry before : List ℕ) (scopes : List CallScope) →
    spots_after n kind (callee_of act) (has_return 0 rest) (map spot_of scopes) ≡ map spot_of (scopes_after al n kind act rest entry before scopes)
spots_mapped al n Inside act rest entry before scopes = refl
spots_mapped al n Call act rest entry before scopes = refl
spots_mapped al n Back act rest entry before scopes = left_mapped scopes

innermost_mapped : (scopes : List CallScope) → innermost_spot (map spot_of scopes) ≡ spot_of (innermost scopes)
innermost_mapped [] = refl
innermost_mapped (s ∷ scopes) = refl

pub test_at : (w : List Letter) (i : ℕ) → i < length w → get_or (return_tests w) i false ≡ has_return 0 (drop (i + 1) w)
test_at [] i l = absurd (omega (arith, l))
test_at (a ∷ w) zero l = refl
test_at (a ∷ w) (suc i) l = test_at w i (omega (arith, l)) ∙ ap (λ (n : ℕ). has_return 0 (drop n (a ∷ w))) (let n : suc (i + 1) ≡ suc i + 1 = omega arith in n)

pub spots_next : (g : Graph) (w : List Letter) (i : ℕ) (a d : Letter) (returns : Bool) (old_frames new_frames old_spots new_spots : List Spot) (s : Spot) →
    i < length w → a ≡ get_or w i d → returns ≡ has_return 0 (drop (i + 1) w) → SpotsRead g w i old_frames old_spots →
    reverse new_frames ≡ spots_after (i + 1) a.kind (callee_of (act_of (alphabet_of g) a)) returns (reverse old_frames) → s ≡ innermost_spot (reverse new_frames) →
    new_spots ≡ old_spots ++ s ∷ [] → SpotsRead g w (i + 1) new_frames new_spots
spots_next g w i a d returns old_frames new_frames old_spots new_spots s l e r h o k p =
    let al : Alphabet = alphabet_of g in
    let f : drop i w ≡ a ∷ drop (i + 1) w = front_letter w i a d l e in
    let next : IsRead g w (i + 1) = next_read g w i a f h.read in
    let rest : List Letter = drop (i + 1) w in
    let n : i + 1 ≡ suc i = omega arith in
    let x : reverse new_frames ≡ map spot_of next.scopes =
    o ∙ ap (λ (m : ℕ). spots_after m a.kind (callee_of (act_of al a)) returns (reverse old_frames)) n ∙
    ap (λ (b : Bool). spots_after (suc i) a.kind (callee_of (act_of al a)) b (reverse old_frames)) r ∙
    ap (spots_after (suc i) a.kind (callee_of (act_of al a)) (has_return 0 rest)) h.open_frames ∙
    spots_mapped al (suc i) a.kind (act_of al a) rest (part_of al a h.read.stage).after.here h.read.stage.here h.read.scopes in
    let y : s ≡ spot_of (innermost next.scopes) = k ∙ ap innermost_spot x ∙ innermost_mapped next.scopes in
    record {
      read = next;
      open_frames = x;
      spots_so_far = p ∙ ap (λ (l : List Spot). l ++ s ∷ []) h.spots_so_far ∙ ap (λ (t : Spot). map spot_at h.read.front ++ t ∷ []) y ∙
          sym (map-append spot_at h.read.front (position_at (i + 1) next.stage next.scopes ∷ []));
    }

pub spots_done : (g : Graph) (w : List Letter) (i : ℕ) (frames spots : List Spot) → length w ≤ i → SpotsRead g w i frames spots → spots ≡ map spot_at (positions_of g w)
spots_done g w i frames spots l h = h.spots_so_far ∙ ap (map spot_at) (all_read g w i l h.read)

pub tests_counted : (w : List Letter) → length (return_tests w) ≡ length w
tests_counted [] = refl
tests_counted (a ∷ w) = ap suc (tests_counted w)
