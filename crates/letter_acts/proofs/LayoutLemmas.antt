-- Frames read in three parts: the constants and globals, the old columns, the locals.
use Rattle.std.proofs.Common.{◌≡◌, ◌↔◌, ◌∙◌, ℕ, zero, suc, ◌+◌, ◌<◌, ◌≤◌, Bool, true, false, not, List, [], ◌∷◌, ◌++◌, length, take, drop, get_or, refl, sym, ap, subst, arith}
use Rattle.std.specs.List.{AllByRecursion, prefix_len}
use Rattle.std.proofs.lemmas.Bool.{false≢true}
use Rattle.std.proofs.lemmas.List.{drop_all}
use Rattle.boogie_tree.specs.declared.tree.Column.{Column}
use Rattle.boogie_tree.specs.declared.tree.Column.TheVariants.{Global, Old, Local}
use Rattle.boogie_tree.specs.declared.tree.VarInfo.{VarInfo}
use Rattle.letter_acts.specs.Frames.{Columns, added, globals_from, old_columns, locals_from, ConstantsFirst, IsFrame, is_global}
use Rattle.letter_acts.specs.Checks.{infos, ConstantsLeft}
use Rattle.letter_acts.proofs.LoopLemmas.{drop_at, so, not_so}

cons_same : {X : Type 0} (x y : X) (xs ys : List X) → x ≡ y → xs ≡ ys → x ∷ xs ≡ y ∷ ys
cons_same x y xs ys e k = cc

cons_head : {X : Type 0} (x y : X) (xs ys : List X) → x ∷ xs ≡ y ∷ ys → x ≡ y
cons_head x y xs ys e = cc

cons_tail : {X : Type 0} (x y : X) (xs ys : List X) → x ∷ xs ≡ y ∷ ys → xs ≡ ys
cons_tail x y xs ys e = cc

no_cons : {X : Type 0} (y : X) (ys : List X) → [] ≡ y ∷ ys → ⊥
no_cons y ys e = cc

append_front : {X : Type 0} (xs ys zs : List X) → xs ++ ys ≡ xs ++ zs → ys ≡ zs
append_front [] ys zs e = e
append_front (x ∷ xs) ys zs e = append_front xs ys zs (cons_tail x x (xs ++ ys) (xs ++ zs) e)

-- the constants and globals: what is left of them after place i
abbrev pub GlobalsLeft : Columns → Columns → Columns → ℕ → Type 0
GlobalsLeft heads frame rest i = drop i frame ≡ globals_from i (infos (drop i heads)) ++ rest

globals_open : (heads frame rest : Columns) (i : ℕ) (h : Column × VarInfo) → h ≡ get_or heads i h → i < length heads →
    globals_from i (infos (drop i heads)) ++ rest ≡ (Global i, h.1) ∷ (globals_from (i + 1) (infos (drop (i + 1) heads)) ++ rest)
globals_open heads frame rest i h e l =
    let next : suc i ≡ i + 1 = omega arith in
    ap (λ hs. globals_from i (infos hs) ++ rest) (drop_at heads i h h e l) ∙ ap (λ n. (Global i, h.1) ∷ (globals_from n (infos (drop (i + 1) heads)) ++ rest)) next

pub globals_step : (heads frame rest : Columns) (Q : Type 0) (i : ℕ) (x h : Column × VarInfo) → x ≡ get_or frame i x → i < length frame → h ≡ get_or heads i h → i < length heads →
    x ≡ (Global i, h.1) → (GlobalsLeft heads frame rest i ↔ Q) → GlobalsLeft heads frame rest (i + 1) ↔ Q
globals_step heads frame rest Q i x h e l f m same inv =
    let k = drop_at frame i x x e l in
    let g = globals_open heads frame rest i h f m in
    (λ t. inv.0 (k ∙ cons_same x (Global i, h.1) _ _ same t ∙ sym g), λ q. cons_tail x (Global i, h.1) _ _ (sym k ∙ inv.1 q ∙ g))

pub globals_stop : (heads frame rest : Columns) (Q : Type 0) (i : ℕ) (x h : Column × VarInfo) → x ≡ get_or frame i x → i < length frame → h ≡ get_or heads i h → i < length heads →
    (x ≡ (Global i, h.1) → ⊥) → (GlobalsLeft heads frame rest i ↔ Q) → (false ≡ true) ↔ Q
globals_stop heads frame rest Q i x h e l f m other inv =
    not_so Q (λ q. other (cons_head x (Global i, h.1) _ _ (sym (drop_at frame i x x e l) ∙ inv.1 q ∙ globals_open heads frame rest i h f m)))

open_some : (heads rest : Columns) (i : ℕ) → i < length heads → (h : Column × VarInfo) × (tail : Columns) × (globals_from i (infos (drop i heads)) ++ rest ≡ h ∷ tail)
open_some heads rest i l = first_of_rest i (drop i heads) rest (positive heads i l)
  where
    positive : (heads : Columns) (i : ℕ) → i < length heads → 0 < length (drop i heads)
    positive [] i l = absurd (omega (arith, l))
    positive (x ∷ xs) zero l = omega arith
    positive (x ∷ xs) (suc i) l = positive xs i (omega (arith, l))

    first_of_rest : (i : ℕ) (hs rest : Columns) → 0 < length hs → (h : Column × VarInfo) × (tail : Columns) × (globals_from i (infos hs) ++ rest ≡ h ∷ tail)
    first_of_rest i [] rest l = absurd (omega (arith, l))
    first_of_rest i (x ∷ xs) rest l = ((Global i, x.1), globals_from (suc i) (infos xs) ++ rest, refl)

pub globals_short : (heads frame rest : Columns) (Q : Type 0) (i : ℕ) → length frame ≤ i → i < length heads → (GlobalsLeft heads frame rest i ↔ Q) → (false ≡ true) ↔ Q
globals_short heads frame rest Q i l m inv =
    let o = open_some heads rest i m in
    not_so Q (λ q. no_cons o.0 o.1 (sym (drop_all i frame l) ∙ inv.1 q ∙ o.2))

pub globals_end : (heads frame : Columns) (Q : Type 0) (i : ℕ) → i ≤ length heads → length heads ≤ i → (GlobalsLeft heads frame (drop (length heads) frame) i ↔ Q) → (true ≡ true) ↔ Q
globals_end heads frame Q i l m inv =
    let whole : i ≡ length heads = omega arith in
    so Q (inv.0 (ap (λ n. drop n frame) whole ∙ sym (ap (λ hs. globals_from i (infos hs) ++ drop (length heads) frame) (drop_all i heads m))))

-- the old columns: what is left of them at place n of the columns after the globals
abbrev pub OldsLeft : Columns → Columns → ℕ → ℕ → Type 0
OldsLeft heads frame n i = (more : Columns) → (drop n frame ≡ old_columns i (infos (drop i heads)) ++ more) ↔ (frame ≡ old_columns 0 (infos heads) ++ more)

olds_open : (heads more : Columns) (i : ℕ) (h : Column × VarInfo) → h ≡ get_or heads i h → i < length heads →
    old_columns i (infos (drop i heads)) ++ more ≡ added (not h.1.constant) (Old i, h.1) (old_columns (i + 1) (infos (drop (i + 1) heads))) ++ more
olds_open heads more i h e l =
    let next : suc i ≡ i + 1 = omega arith in
    ap (λ hs. old_columns i (infos hs) ++ more) (drop_at heads i h h e l)
    ∙ ap (λ n. added (not h.1.constant) (Old i, h.1) (old_columns n (infos (drop (i + 1) heads))) ++ more) next

olds_open_at : (heads more : Columns) (i : ℕ) (h : Column × VarInfo) (b : Bool) → h ≡ get_or heads i h → i < length heads → h.1.constant ≡ b →
    old_columns i (infos (drop i heads)) ++ more ≡ added (not b) (Old i, h.1) (old_columns (i + 1) (infos (drop (i + 1) heads))) ++ more
olds_open_at heads more i h b e l t = olds_open heads more i h e l ∙ ap (λ c. added (not c) (Old i, h.1) (old_columns (i + 1) (infos (drop (i + 1) heads))) ++ more) t

pub olds_skip : (heads frame : Columns) (n i : ℕ) (h : Column × VarInfo) → h ≡ get_or heads i h → i < length heads → h.1.constant ≡ true →
    OldsLeft heads frame n i → OldsLeft heads frame n (i + 1)
olds_skip heads frame n i h e l t inv more =
    let g = olds_open_at heads more i h true e l t in
    (λ k. (inv more).0 (k ∙ sym g), λ q. (inv more).1 q ∙ g)

pub olds_take : (heads frame : Columns) (n i : ℕ) (x h : Column × VarInfo) → x ≡ get_or frame n x → n < length frame → h ≡ get_or heads i h → i < length heads → h.1.constant ≡ false →
    x ≡ (Old i, h.1) → OldsLeft heads frame n i → OldsLeft heads frame (n + 1) (i + 1)
olds_take heads frame n i x h d m e l t same inv more =
    let g = olds_open_at heads more i h false e l t in
    let k = drop_at frame n x x d m in
    (λ j. (inv more).0 (k ∙ cons_same x (Old i, h.1) _ _ same j ∙ sym g), λ q. cons_tail x (Old i, h.1) _ _ (sym k ∙ (inv more).1 q ∙ g))

pub olds_stop : (heads frame : Columns) (n i : ℕ) (x h : Column × VarInfo) → x ≡ get_or frame n x → n < length frame → h ≡ get_or heads i h → i < length heads → h.1.constant ≡ false →
    (x ≡ (Old i, h.1) → ⊥) → OldsLeft heads frame n i → (more : Columns) → frame ≡ old_columns 0 (infos heads) ++ more → ⊥
olds_stop heads frame n i x h d m e l t other inv more q =
    other (cons_head x (Old i, h.1) _ _ (sym (drop_at frame n x x d m) ∙ (inv more).1 q ∙ olds_open_at heads more i h false e l t))

pub olds_short : (heads frame : Columns) (n i : ℕ) (h : Column × VarInfo) → length frame ≤ n → h ≡ get_or heads i h → i < length heads → h.1.constant ≡ false →
    OldsLeft heads frame n i → (more : Columns) → frame ≡ old_columns 0 (infos heads) ++ more → ⊥
olds_short heads frame n i h m e l t inv more q = no_cons _ _ (sym (drop_all n frame m) ∙ (inv more).1 q ∙ olds_open_at heads more i h false e l t)

pub olds_end : (heads frame : Columns) (n i : ℕ) → length heads ≤ i → OldsLeft heads frame n i → frame ≡ old_columns 0 (infos heads) ++ drop n frame
olds_end heads frame n i l inv = (inv (drop n frame)).0 (sym (ap (λ hs. old_columns i (infos hs) ++ drop n frame) (drop_all i heads l)))

-- the locals: what is left of them
abbrev pub LocalsLeft : Columns → ℕ → Type 0
LocalsLeft frame i = drop i frame ≡ locals_from i (infos (drop i frame))

locals_open : (frame : Columns) (i : ℕ) (x : Column × VarInfo) → x ≡ get_or frame i x → i < length frame →
    locals_from i (infos (drop i frame)) ≡ (Local i, x.1) ∷ locals_from (i + 1) (infos (drop (i + 1) frame))
locals_open frame i x e l =
    let next : suc i ≡ i + 1 = omega arith in
    ap (λ xs. locals_from i (infos xs)) (drop_at frame i x x e l) ∙ ap (λ n. (Local i, x.1) ∷ locals_from n (infos (drop (i + 1) frame))) next

pub locals_step : (frame : Columns) (Q : Type 0) (i : ℕ) (x : Column × VarInfo) → x ≡ get_or frame i x → i < length frame → x.0 ≡ Local i →
    (LocalsLeft frame i ↔ Q) → LocalsLeft frame (i + 1) ↔ Q
locals_step frame Q i x e l t inv =
    let k = drop_at frame i x x e l in
    let g = locals_open frame i x e l in
    let same : x ≡ (Local i, x.1) = ap (λ c. (c, x.1)) t in
    (λ j. inv.0 (k ∙ cons_same x (Local i, x.1) _ _ same j ∙ sym g), λ q. cons_tail x (Local i, x.1) _ _ (sym k ∙ inv.1 q ∙ g))

pub locals_stop : (frame : Columns) (Q : Type 0) (i : ℕ) (x : Column × VarInfo) → x ≡ get_or frame i x → i < length frame → (x.0 ≡ Local i → ⊥) →
    (LocalsLeft frame i ↔ Q) → (false ≡ true) ↔ Q
locals_stop frame Q i x e l other inv =
    not_so Q (λ q. other (ap (λ c. c.0) (cons_head x (Local i, x.1) _ _ (sym (drop_at frame i x x e l) ∙ inv.1 q ∙ locals_open frame i x e l))))

pub locals_end : (frame : Columns) (Q : Type 0) (i : ℕ) → length frame ≤ i → (LocalsLeft frame i ↔ Q) → (true ≡ true) ↔ Q
locals_end frame Q i l inv = let k = drop_all i frame l in so Q (inv.0 (k ∙ sym (ap (λ xs. locals_from i (infos xs)) k)))

-- the constant ones first
all_changing_first : (vs : List VarInfo) → AllByRecursion (λ v. v.constant ≡ false) vs → ConstantsFirst vs
all_changing_first [] a = tt
all_changing_first (v ∷ vs) a = (λ e. a.1, all_changing_first vs a.1)

constants_open : (changing : Bool) (v : VarInfo) (vs : List VarInfo) → v.constant ≡ false → ConstantsLeft changing (v ∷ vs) ↔ ConstantsLeft true vs
constants_open true v vs e = (λ a. a.1, λ a. (e, a))
constants_open false v vs e = (λ a. a.0 e, λ a. (λ k. a, all_changing_first vs a))

constants_on : (v : VarInfo) (vs : List VarInfo) → v.constant ≡ true → ConstantsLeft false (v ∷ vs) ↔ ConstantsLeft false vs
constants_on v vs e = (λ a. a.1, λ a. (λ k. absurd (false≢true (sym k ∙ e)), a))

pub changing_step : (frame : Columns) (Q : Type 0) (i : ℕ) (x : Column × VarInfo) (changing : Bool) → x ≡ get_or frame i x → i < length frame → x.1.constant ≡ false →
    (ConstantsLeft changing (infos (drop i frame)) ↔ Q) → ConstantsLeft true (infos (drop (i + 1) frame)) ↔ Q
changing_step frame Q i x changing e l t inv =
    let k = subst (λ (xs : Columns). ConstantsLeft changing (infos xs) ↔ Q) (drop_at frame i x x e l) inv in
    let s = constants_open changing x.1 (infos (drop (i + 1) frame)) t in
    (λ a. k.0 (s.1 a), λ q. s.0 (k.1 q))

pub constant_step : (frame : Columns) (Q : Type 0) (i : ℕ) (x : Column × VarInfo) (changing : Bool) → x ≡ get_or frame i x → i < length frame → x.1.constant ≡ true → changing ≡ false →
    (ConstantsLeft changing (infos (drop i frame)) ↔ Q) → ConstantsLeft changing (infos (drop (i + 1) frame)) ↔ Q
constant_step frame Q i x true e l t f inv = absurd (false≢true (sym f))
constant_step frame Q i x false e l t f inv =
    let k = subst (λ (xs : Columns). ConstantsFirst (infos xs) ↔ Q) (drop_at frame i x x e l) inv in
    let s = constants_on x.1 (infos (drop (i + 1) frame)) t in
    (λ a. k.0 (s.1 a), λ q. s.0 (k.1 q))

pub constant_late : (frame : Columns) (Q : Type 0) (i : ℕ) (x : Column × VarInfo) (changing : Bool) → x ≡ get_or frame i x → i < length frame → x.1.constant ≡ true → changing ≡ true →
    (ConstantsLeft changing (infos (drop i frame)) ↔ Q) → (false ≡ true) ↔ Q
constant_late frame Q i x false e l t f inv = absurd (false≢true f)
constant_late frame Q i x true e l t f inv =
    let k = subst (λ (xs : Columns). AllByRecursion (λ v. v.constant ≡ false) (infos xs) ↔ Q) (drop_at frame i x x e l) inv in
    not_so Q (λ q. false≢true (sym (k.1 q).0 ∙ t))

none_left : (changing : Bool) → ConstantsLeft changing []
none_left true = tt
none_left false = tt

pub constants_end : (frame : Columns) (Q : Type 0) (i : ℕ) (changing : Bool) → length frame ≤ i → (ConstantsLeft changing (infos (drop i frame)) ↔ Q) → (true ≡ true) ↔ Q
constants_end frame Q i changing l inv = so Q (inv.0 (subst (λ (xs : Columns). ConstantsLeft changing (infos xs)) (sym (drop_all i frame l)) (none_left changing)))

-- a frame from its parts, and the parts of a frame
pub frame_made : (globals : List VarInfo) (frame rest locals : Columns) → frame ≡ globals_from 0 globals ++ rest → rest ≡ old_columns 0 globals ++ locals →
    locals ≡ locals_from 0 (infos locals) → ConstantsFirst (infos locals) → IsFrame globals frame
frame_made globals frame rest locals e f g h = record {
  locals = infos locals;
  columns = e ∙ ap (λ r. globals_from 0 globals ++ r) (f ∙ ap (λ l. old_columns 0 globals ++ l) g);
  parameters_first = h;
}

length_globals : (n : ℕ) (globals : List VarInfo) → length (globals_from n globals) ≡ length globals
length_globals n [] = refl
length_globals n (v ∷ vs) = ap suc (length_globals (suc n) vs)

drop_front : {X : Type 0} (xs ys : List X) → drop (length xs) (xs ++ ys) ≡ ys
drop_front [] ys = refl
drop_front (x ∷ xs) ys = drop_front xs ys

length_infos : (columns : Columns) → length (infos columns) ≡ length columns
length_infos [] = refl
length_infos (x ∷ xs) = ap suc (length_infos xs)

infos_of_locals : (n : ℕ) (locals : List VarInfo) → infos (locals_from n locals) ≡ locals
infos_of_locals n [] = refl
infos_of_locals n (v ∷ vs) = ap (λ ws. v ∷ ws) (infos_of_locals (suc n) vs)

pub rest_of_frame : (heads frame : Columns) → (f : IsFrame (infos heads) frame) → drop (length heads) frame ≡ old_columns 0 (infos heads) ++ locals_from 0 f.locals
rest_of_frame heads frame f =
    let same : length heads ≡ length (globals_from 0 (infos heads)) = sym (length_globals 0 (infos heads) ∙ length_infos heads) in
    ap (λ n. drop n frame) same
    ∙ ap (λ xs. drop (length (globals_from 0 (infos heads))) xs) f.columns
    ∙ drop_front (globals_from 0 (infos heads)) (old_columns 0 (infos heads) ++ locals_from 0 f.locals)

pub begins_with_globals : (heads frame : Columns) → IsFrame (infos heads) frame → frame ≡ globals_from 0 (infos heads) ++ drop (length heads) frame
begins_with_globals heads frame f = f.columns ∙ ap (λ r. globals_from 0 (infos heads) ++ r) (sym (rest_of_frame heads frame f))

length_front : {X : Type 0} (xs ys : List X) → length xs ≤ length (xs ++ ys)
length_front [] ys = omega arith
length_front (x ∷ xs) ys = let k = length_front xs ys in omega (arith, k)

pub long_enough : (heads frame : Columns) → IsFrame (infos heads) frame → length heads ≤ length frame
long_enough heads frame f =
    let a = length_front (globals_from 0 (infos heads)) (old_columns 0 (infos heads) ++ locals_from 0 f.locals) in
    let b = ap length f.columns in
    let c = length_globals 0 (infos heads) ∙ length_infos heads in
    omega arith

-- the columns after the old ones are the locals
pub locals_are : (heads frame rest locals : Columns) → rest ≡ drop (length heads) frame → rest ≡ old_columns 0 (infos heads) ++ locals → (f : IsFrame (infos heads) frame) → locals ≡ locals_from 0 f.locals
locals_are heads frame rest locals e g f =
    append_front (old_columns 0 (infos heads)) locals (locals_from 0 f.locals) (sym g ∙ e ∙ rest_of_frame heads frame f)

pub locals_numbered : (heads frame rest locals : Columns) → rest ≡ drop (length heads) frame → rest ≡ old_columns 0 (infos heads) ++ locals → IsFrame (infos heads) frame →
    locals ≡ locals_from 0 (infos locals)
locals_numbered heads frame rest locals e g f =
    let k = locals_are heads frame rest locals e g f in
    k ∙ sym (ap (λ vs. locals_from 0 vs) (ap infos k ∙ infos_of_locals 0 f.locals))

pub locals_constant_first : (heads frame rest locals : Columns) → rest ≡ drop (length heads) frame → rest ≡ old_columns 0 (infos heads) ++ locals → IsFrame (infos heads) frame →
    ConstantsFirst (infos locals)
locals_constant_first heads frame rest locals e g f =
    subst ConstantsFirst (sym (ap infos (locals_are heads frame rest locals e g f) ∙ infos_of_locals 0 f.locals)) f.parameters_first

-- the globals of a frame are what it begins with
no_globals_in : (n m : ℕ) (vs : List VarInfo) (locals : List VarInfo) → prefix_len is_global (old_columns n vs ++ locals_from m locals) ≡ 0
no_globals_in n m [] [] = refl
no_globals_in n m [] (l ∷ ls) = refl
no_globals_in n m (v ∷ vs) locals = old_or_not n m v vs locals (not v.constant) (no_globals_in (suc n) m vs locals)
  where
    old_or_not : (n m : ℕ) (v : VarInfo) (vs locals : List VarInfo) (b : Bool) → prefix_len is_global (old_columns (suc n) vs ++ locals_from m locals) ≡ 0 →
        prefix_len is_global (added b (Old n, v) (old_columns (suc n) vs) ++ locals_from m locals) ≡ 0
    old_or_not n m v vs locals true k = refl
    old_or_not n m v vs locals false k = k

heads_from : (n : ℕ) (globals : List VarInfo) (rest : Columns) → prefix_len is_global rest ≡ 0 →
    infos (take (prefix_len is_global (globals_from n globals ++ rest)) (globals_from n globals ++ rest)) ≡ globals
heads_from n [] rest e = ap (λ k. infos (take k rest)) e
heads_from n (v ∷ vs) rest e =
    let xs : Columns = globals_from (suc n) vs ++ rest in
    let one : 1 + prefix_len is_global xs ≡ suc (prefix_len is_global xs) = omega arith in
    ap (λ k. infos (take k ((Global n, v) ∷ xs))) one ∙ ap (λ ws. v ∷ ws) (heads_from (suc n) vs rest e)

pub heads_are : (globals : List VarInfo) (frame : Columns) → IsFrame globals frame → infos (take (prefix_len is_global frame) frame) ≡ globals
heads_are globals frame f =
    ap (λ xs. infos (take (prefix_len is_global xs) xs)) f.columns
    ∙ heads_from 0 globals (old_columns 0 globals ++ locals_from 0 f.locals) (no_globals_in 0 0 globals f.locals)

-- The frame read in slices: the columns after the globals, and after the old ones.
pub frame_by_slices : (heads frame rest locals : Columns) (n : ℕ) → rest ≡ drop (length heads) frame → locals ≡ drop n rest →
    frame ≡ globals_from 0 (infos heads) ++ drop (length heads) frame → rest ≡ old_columns 0 (infos heads) ++ drop n rest →
    locals ≡ locals_from 0 (infos locals) → ConstantsFirst (infos locals) → IsFrame (infos heads) frame
frame_by_slices heads frame rest locals n r l g o k f =
    frame_made (infos heads) frame (drop (length heads) frame) locals g (sym r ∙ o ∙ ap (λ xs. old_columns 0 (infos heads) ++ xs) (sym l)) k f

pub numbered_by_slices : (heads frame rest locals : Columns) (n : ℕ) → rest ≡ drop (length heads) frame → locals ≡ drop n rest →
    rest ≡ old_columns 0 (infos heads) ++ drop n rest → IsFrame (infos heads) frame → locals ≡ locals_from 0 (infos locals)
numbered_by_slices heads frame rest locals n r l o f =
    locals_numbered heads frame rest locals r (o ∙ ap (λ xs. old_columns 0 (infos heads) ++ xs) (sym l)) f

pub constants_by_slices : (heads frame rest locals : Columns) (n : ℕ) → rest ≡ drop (length heads) frame → locals ≡ drop n rest →
    rest ≡ old_columns 0 (infos heads) ++ drop n rest → IsFrame (infos heads) frame → ConstantsFirst (infos locals)
constants_by_slices heads frame rest locals n r l o f =
    locals_constant_first heads frame rest locals r (o ∙ ap (λ xs. old_columns 0 (infos heads) ++ xs) (sym l)) f

-- a frame has old columns after its globals
pub olds_stand : (heads frame rest : Columns) → rest ≡ drop (length heads) frame → ((more : Columns) → rest ≡ old_columns 0 (infos heads) ++ more → ⊥) → IsFrame (infos heads) frame → ⊥
olds_stand heads frame rest r none f = none (locals_from 0 f.locals) (r ∙ rest_of_frame heads frame f)
