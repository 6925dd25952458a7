-- Ways through words, for any notion of step: cut in two, by themselves, read by positions, and of two notions at once.
use Rattle.std.proofs.Common.{◌≡◌, ◌↔◌, ◌∙◌, ℕ, zero, suc, List, [], ◌∷◌, ◌++◌, length, reverse, Option, None, Some, refl, sym, ap, subst, append_assoc, arith}
use Rattle.std.specs.Prelude.{slice_get}
use Rattle.std.proofs.lemmas.List.{reverse-append, length-reverse}
use Rattle.nwa_base.specs.declared.letters.Kind.{Kind}
use Rattle.nwa_base.specs.declared.letters.Kind.TheVariants.{Inside, Call, Back}
use Rattle.nwa_base.specs.declared.letters.Letter.{Letter}
use Rattle.nwa_base.specs.Words.{counted, match_back}
use Rattle.letter_acts.specs.Ways.{Steps, Leads, Goes, LeadsAt, GoesOn, GoesAlong, GoesThrough}

-- a letter leads to one stack
pub leads_stack : {X : Type 0} (steps : Steps X) (kind : Kind) (a : Letter) (before : List X) (x y : X) (P : List X → Type 0) →
    Leads steps kind a before x y P → (stack : List X) × Leads steps kind a before x y (λ s. s ≡ stack) × P stack
leads_stack steps Inside a before x y P h = (before, (h.0, refl), h.1)
leads_stack steps Call a before x y P h = (x ∷ before, (h.0, refl), h.1)
leads_stack steps Back a [] x y P h = absurd h
leads_stack steps Back a (b ∷ before) x y P h = (before, (h.0, refl), h.1)

pub leads_with : {X : Type 0} (steps : Steps X) (kind : Kind) (a : Letter) (before : List X) (x y : X) (stack : List X) (P : List X → Type 0) →
    Leads steps kind a before x y (λ s. s ≡ stack) → P stack → Leads steps kind a before x y P
leads_with steps Inside a before x y stack P h g = (h.0, subst P (sym h.1) g)
leads_with steps Call a before x y stack P h g = (h.0, subst P (sym h.1) g)
leads_with steps Back a [] x y stack P h g = absurd h
leads_with steps Back a (b ∷ before) x y stack P h g = (h.0, subst P (sym h.1) g)

-- a way with its members, and a way with its end
pub through_goes : {X : Type 0} (steps : Steps X) (w : List Letter) (before : List X) (x : X) (more : List X) → GoesThrough steps before x w more →
    (after : List X) × (y : X) × Goes steps before x w after y
through_goes steps [] before x [] h = (before, x, (refl, refl))
through_goes steps [] before x (y ∷ more) h = absurd h
through_goes steps (a ∷ w) before x [] h = absurd h
through_goes steps (a ∷ w) before x (y ∷ more) h =
    let f = leads_stack steps a.kind a before x y (λ stack. GoesThrough steps stack y w more) h in
    let r = through_goes steps w f.0 y more f.2 in
    (r.0, r.1, (y, leads_with steps a.kind a before x y f.0 (λ stack. Goes steps stack y w r.0 r.1) f.1 r.2))

pub goes_through : {X : Type 0} (steps : Steps X) (w : List Letter) (before after : List X) (x y : X) → Goes steps before x w after y →
    (more : List X) × GoesThrough steps before x w more
goes_through steps [] before after x y h = ([], tt)
goes_through steps (a ∷ w) before after x y h =
    let f = leads_stack steps a.kind a before x h.0 (λ stack. Goes steps stack h.0 w after y) h.1 in
    let r = goes_through steps w f.0 after h.0 y f.2 in
    (h.0 ∷ r.0, leads_with steps a.kind a before x h.0 f.0 (λ stack. GoesThrough steps stack h.0 w r.0) f.1 r.1)

-- the stack after one letter more
abbrev pub pushed : {X : Type 0} → Kind → X → List X → List X
pushed Inside x s = s
pushed Call x s = x ∷ s
pushed Back x [] = []
pushed Back x (b ∷ s) = s

-- the stack after these letters and members, both last first
abbrev pub stack_of : {X : Type 0} → List Letter → List X → List X
stack_of [] past = []
stack_of (a ∷ front) [] = []
stack_of (a ∷ front) (x ∷ past) = pushed a.kind x (stack_of front past)

-- the member before the call that matches, found by counting
abbrev pub found : {X : Type 0} → List Letter → List X → ℕ → Option X
found [] past skip = None
found (a ∷ front) [] skip = None
found (a ∷ front) (x ∷ past) skip = counted a.kind x skip (λ n. found front past n)

found_step : {X : Type 0} (kind : Kind) (x : X) (skip : ℕ) (s : List X) (f : ℕ → Option X) → ((n : ℕ) → f n ≡ slice_get s n) →
    counted kind x skip f ≡ slice_get (pushed kind x s) skip
found_step Inside x skip s f h = h skip
found_step Call x zero s f h = refl
found_step Call x (suc n) s f h = h n
found_step Back x skip [] f h = h (suc skip)
found_step Back x skip (b ∷ s) f h = h (suc skip)

-- counting finds the members of the stack in turn
found_nth : {X : Type 0} (front : List Letter) (past : List X) (skip : ℕ) → found front past skip ≡ slice_get (stack_of front past) skip
found_nth [] past skip = refl
found_nth (a ∷ front) [] skip = refl
found_nth (a ∷ front) (x ∷ past) skip = found_step a.kind x skip (stack_of front past) (found front past) (λ n. found_nth front past n)

-- the member at a place, if there is one
abbrev pub read_at : {X : Type 0} → List X → Option ℕ → Option X
read_at run None = None
read_at run (Some place) = slice_get run place

counted_read : {X : Type 0} (kind : Kind) (run : List X) (place : ℕ) (x : X) (skip : ℕ) (members : ℕ → Option X) (places : ℕ → Option ℕ) →
    slice_get run place ≡ Some x → ((n : ℕ) → members n ≡ read_at run (places n)) →
    counted kind x skip members ≡ read_at run (counted kind place skip places)
counted_read Inside run place x skip members places e h = h skip
counted_read Call run place x zero members places e h = sym e
counted_read Call run place x (suc n) members places e h = h n
counted_read Back run place x skip members places e h = h (suc skip)

get_seam : {X : Type 0} (xs : List X) (x : X) (rest : List X) → slice_get (xs ++ x ∷ rest) (length xs) ≡ Some x
get_seam [] x rest = refl
get_seam (y ∷ xs) x rest = get_seam xs x rest

seam : {X : Type 0} (run past rest : List X) (x : X) → run ≡ reverse (x ∷ past) ++ rest → run ≡ reverse past ++ x ∷ rest
seam {X} run past rest x e =
    e ∙ ap (λ (l : List X). l ++ rest) (reverse-append (x ∷ []) past) ∙ append_assoc (reverse past) (x ∷ []) rest

unseam : {X : Type 0} (run past rest : List X) (x : X) → run ≡ reverse past ++ x ∷ rest → run ≡ reverse (x ∷ past) ++ rest
unseam {X} run past rest x e =
    e ∙ sym (ap (λ (l : List X). l ++ rest) (reverse-append (x ∷ []) past) ∙ append_assoc (reverse past) (x ∷ []) rest)

at_seam : {X : Type 0} (run past rest : List X) (x : X) (n : ℕ) → run ≡ reverse past ++ x ∷ rest → n ≡ length past → slice_get run n ≡ Some x
at_seam {X} run past rest x n e l =
    ap (λ (r : List X). slice_get r n) e ∙ ap (slice_get (reverse past ++ x ∷ rest)) (l ∙ sym (length-reverse past)) ∙
    get_seam (reverse past) x rest

-- the member that counting finds is the run's at the place that counting finds
placed : {X : Type 0} (run : List X) (front : List Letter) (past rest : List X) (skip : ℕ) → length front ≡ length past → run ≡ reverse past ++ rest →
    found front past skip ≡ read_at run (match_back front skip)
placed run [] past rest skip l e = refl
placed run (a ∷ front) [] rest skip l e = absurd (omega arith)
placed run (a ∷ front) (x ∷ past) rest skip l e =
    let same : length front ≡ length past = omega arith in
    let next = seam run past rest x e in
    counted_read a.kind run (length front) x skip (found front past) (match_back front)
    (at_seam run past rest x (length front) next same) (λ n. placed run front past (x ∷ rest) n same next)

-- the first of the stack is the run's member at the place of the match
matched : {X : Type 0} (run : List X) (front : List Letter) (past rest : List X) → length front ≡ length past → run ≡ reverse past ++ rest →
    slice_get (stack_of front past) 0 ≡ read_at run (match_back front 0)
matched run front past rest l e = sym (found_nth front past 0) ∙ placed run front past rest 0 l e

read_some : {X : Type 0} (run : List X) (o : Option ℕ) (x : X) → Some x ≡ read_at run o → (place : ℕ) × (o ≡ Some place) × (slice_get run place ≡ Some x)
read_some run None x h = cc
read_some run (Some place) x h = (place, refl, sym h)

leads_pushed : {X : Type 0} (steps : Steps X) (kind : Kind) (a : Letter) (before : List X) (x y : X) (stack : List X) →
    Leads steps kind a before x y (λ s. s ≡ stack) → pushed kind x before ≡ stack
leads_pushed steps Inside a before x y stack h = h.1
leads_pushed steps Call a before x y stack h = h.1
leads_pushed steps Back a [] x y stack h = absurd h
leads_pushed steps Back a (b ∷ before) x y stack h = h.1

leads_at : {X : Type 0} (steps : Steps X) (run : List X) (kind : Kind) (front : List Letter) (a : Letter) (before : List X) (x y : X) (stack : List X) →
    slice_get before 0 ≡ read_at run (match_back front 0) → Leads steps kind a before x y (λ s. s ≡ stack) → LeadsAt steps run kind front a x y
leads_at steps run Inside front a before x y stack n h = h.0
leads_at steps run Call front a before x y stack n h = h.0
leads_at steps run Back front a [] x y stack n h = absurd h
leads_at steps run Back front a (b ∷ before) x y stack n h =
    let r = read_some run (match_back front 0) b n in
    (r.0, b, r.1, r.2, h.0)

at_leads : {X : Type 0} (steps : Steps X) (run : List X) (kind : Kind) (front : List Letter) (a : Letter) (before : List X) (x y : X) →
    slice_get before 0 ≡ read_at run (match_back front 0) → LeadsAt steps run kind front a x y →
    Leads steps kind a before x y (λ s. s ≡ pushed kind x before)
at_leads steps run Inside front a before x y n h = (h, refl)
at_leads steps run Call front a before x y n h = (h, refl)
at_leads steps run Back front a [] x y n h = let k = n ∙ ap (read_at run) h.2 ∙ h.3 in absurd (cc)
at_leads {X} steps run Back front a (b ∷ before) x y n h =
    let k : Some b ≡ Some h.1 = n ∙ ap (read_at run) h.2 ∙ h.3 in
    let i : b ≡ h.1 = cc in
    (subst (λ (c : X). steps.back a x c y) (sym i) h.4, refl)

through_along : {X : Type 0} (steps : Steps X) (run : List X) (w front : List Letter) (past : List X) (x : X) (more : List X) →
    length front ≡ length past → run ≡ reverse past ++ x ∷ more → GoesThrough steps (stack_of front past) x w more → GoesOn steps run front w (x ∷ more)
through_along steps run [] front past x [] l e h = tt
through_along steps run [] front past x (y ∷ more) l e h = absurd h
through_along steps run (a ∷ w) front past x [] l e h = absurd h
through_along {X} steps run (a ∷ w) front past x (y ∷ more) l e h =
    let f = leads_stack steps a.kind a (stack_of front past) x y (λ stack. GoesThrough steps stack y w more) h in
    let same : length (a ∷ front) ≡ length (x ∷ past) = omega arith in (
      leads_at steps run a.kind front a (stack_of front past) x y f.0 (matched run front past (x ∷ y ∷ more) l e) f.1,
      through_along steps run w (a ∷ front) (x ∷ past) y more same (unseam run past (y ∷ more) x e)
          (subst (λ (s : List X). GoesThrough steps s y w more) (sym (leads_pushed steps a.kind a (stack_of front past) x y f.0 f.1)) f.2),
    )

along_through : {X : Type 0} (steps : Steps X) (run : List X) (w front : List Letter) (past : List X) (x : X) (more : List X) →
    length front ≡ length past → run ≡ reverse past ++ x ∷ more → GoesOn steps run front w (x ∷ more) → GoesThrough steps (stack_of front past) x w more
along_through steps run [] front past x [] l e h = tt
along_through steps run [] front past x (y ∷ more) l e h = absurd h
along_through steps run (a ∷ w) front past x [] l e h = absurd h
along_through steps run (a ∷ w) front past x (y ∷ more) l e h =
    let same : length (a ∷ front) ≡ length (x ∷ past) = omega arith in
    let f = at_leads steps run a.kind front a (stack_of front past) x y (matched run front past (x ∷ y ∷ more) l e) h.0 in
    leads_with steps a.kind a (stack_of front past) x y (pushed a.kind x (stack_of front past)) (λ stack. GoesThrough steps stack y w more) f
    (along_through steps run w (a ∷ front) (x ∷ past) y more same (unseam run past (y ∷ more) x e) h.1)

-- members, one for each position, go along a word exactly where each follows from the one before and the stack
pub along_by_stack : {X : Type 0} (steps : Steps X) (w : List Letter) (x : X) (more : List X) →
    GoesAlong steps w (x ∷ more) ↔ GoesThrough steps [] x w more
along_by_stack steps w x more = (
  along_through steps (x ∷ more) w [] [] x more refl refl,
  through_along steps (x ∷ more) w [] [] x more refl refl,
)
