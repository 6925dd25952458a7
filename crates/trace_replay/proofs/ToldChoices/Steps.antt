-- Lists that grow by what one step adds.
use Rattle.std.proofs.Common.{◌≡◌, ◌∙◌, ℕ, zero, suc, ◌+◌, ◌<◌, ◌≤◌, ℤ, pos, List, [], ◌∷◌, ◌++◌, map, length, replicate, drop, Option, None, Some, inl, inr, refl, sym, ap, arith, append_assoc, append-nil}
use Rattle.std.specs.Prelude.{slice_get}
use Rattle.std.specs.List.{AllByRecursion}
use Rattle.std.proofs.lemmas.List.{map-append}
use Rattle.std.proofs.lemmas.Option.{slice_get_cases}
use Rattle.typed_tree.specs.TypedTree.{TypedInvariant, TypedProcedure, TypedProgram}
use Rattle.lin_rows.specs.Points.{point_of}
use Rattle.lowered_graph.specs.LoweredSteps.ProgramFrames.{frame_at}
use Rattle.lowered_graph.specs.LoweredImports.Imports.{none_for, import_choices}
use Rattle.lowered_graph.specs.Lowered.{lowered}
use Rattle.lowered_graph.proofs.Alphabet.{counted_get}
use Rattle.letter_acts.specs.FrameRows.Rows.{columns_from}
use Rattle.trace_replay.specs.ToldChoices.Kinds as spec
use Rattle.trace_replay.specs.ToldChoices.Ties.Walks.{body_kinds, kinds_from, program_kinds}
use Rattle.trace_replay.specs.ToldChoices.Ties.Views.{plain_kind, plain_kinds}
use Rattle.trace_replay.specs.declared.told_choices.kinds.Kind.{Kind}

-- ---- values

pub value_past : (vs : List ℤ) (n : ℕ) → length vs ≤ n → pos 0 ≡ point_of vs n
value_past [] n h = refl
value_past (v ∷ vs) zero h = absurd (omega arith)
value_past (v ∷ vs) (suc n) h = value_past vs n (omega arith)

pub columns_more : (n k : ℕ) → columns_from n (k + 1) ≡ columns_from n k ++ (n + k) ∷ []
columns_more n zero =
    let e : n ≡ n + 0 = omega arith in
    ap (λ (m : ℕ). m ∷ []) e
columns_more n (suc k) =
    let e : suc k + 1 ≡ suc (k + 1) = omega arith in
    let f : suc n + k ≡ n + suc k = omega arith in
    ap (columns_from n) e ∙ ap (λ (l : List ℕ). n ∷ l) (columns_more (suc n) k ∙ ap (λ (m : ℕ). columns_from (suc n) k ++ m ∷ []) f)

pub none_many : (is : List TypedInvariant) → none_for is ≡ replicate (length is) None
none_many [] = refl
none_many (i ∷ is) = ap (λ (l : List (Option ℤ)). None ∷ l) (none_many is)

-- ---- frames

pub frame_there : (t : TypedProgram) (n : ℕ) → n < length t.procs → slice_get (lowered t).frames n ≡ Some (frame_at t n)
frame_there t n less = elim (slice_get_cases t.procs n).1 [
  | inl h ↦ (let here : 0 + n ≡ n = omega arith in counted_get (λ q. frame_at t q.0) 0 t.procs n h.0 h.2 ∙ ap (λ (m : ℕ). Some (frame_at t m)) here)
  | inr h ↦ absurd (omega (arith, h.0))
]

-- ---- kinds

pub kind_pushed : (old new : List Kind) (k : Kind) → new ≡ old ++ k ∷ [] → plain_kinds new ≡ plain_kinds old ++ plain_kind k ∷ []
kind_pushed old new k e = ap plain_kinds e ∙ map-append plain_kind old (k ∷ [])

pub two_steps : {X : Type 0} (a b c xs ys : List X) → b ≡ a ++ xs → c ≡ b ++ ys → c ≡ a ++ (xs ++ ys)
two_steps a b c xs ys e f = f ∙ ap (λ l. l ++ ys) e ∙ append_assoc a xs ys

pub no_step : {X : Type 0} (a xs : List X) → xs ≡ [] → a ≡ a ++ xs
no_step a xs e = sym (ap (λ l. a ++ l) e ∙ append-nil a)

pub drop_here : {X : Type 0} (xs : List X) (n : ℕ) (x : X) → slice_get xs n ≡ Some x → drop n xs ≡ x ∷ drop (n + 1) xs
drop_here [] n x e = absurd (cc)
drop_here (y ∷ ys) zero x e = let same : y ≡ x = cc in ap (λ z. z ∷ ys) same
drop_here (y ∷ ys) (suc n) x e =
    let s : suc n + 1 ≡ suc (n + 1) = omega arith in
    drop_here ys n x e ∙ ap (λ (m : ℕ). x ∷ drop m (y ∷ ys)) (sym s)

pub drop_past : {X : Type 0} (xs : List X) (n : ℕ) → length xs ≤ n → drop n xs ≡ []
drop_past [] zero h = refl
drop_past [] (suc n) h = refl
drop_past (x ∷ xs) zero h = absurd (omega arith)
drop_past (x ∷ xs) (suc n) h = drop_past xs n (omega arith)

pub kinds_step : (t : TypedProgram) (n : ℕ) (q : TypedProcedure) (old new : List spec.PlainKind) → slice_get t.procs n ≡ Some q → new ≡ old ++ body_kinds t.procs (frame_at t n) q q.body →
    new ++ kinds_from t (n + 1) (drop (n + 1) t.procs) ≡ old ++ kinds_from t n (drop n t.procs)
kinds_step t n q old new e h =
    ap (λ (l : List spec.PlainKind). l ++ kinds_from t (n + 1) (drop (n + 1) t.procs)) h ∙ append_assoc old (body_kinds t.procs (frame_at t n) q q.body) (kinds_from t (n + 1) (drop (n + 1) t.procs))
    ∙ ap (λ (qs : List TypedProcedure). old ++ kinds_from t n qs) (sym (drop_here t.procs n q e))

pub kinds_done : (t : TypedProgram) (n : ℕ) (ks : List spec.PlainKind) → length t.procs ≤ n → ks ++ kinds_from t n (drop n t.procs) ≡ program_kinds t → ks ≡ program_kinds t
kinds_done t n ks less e = sym (append-nil ks) ∙ ap (λ (qs : List TypedProcedure). ks ++ kinds_from t n qs) (sym (drop_past t.procs n less)) ∙ e

pub all_snoc : {X : Type 0} (P : X → Type 0) (xs : List X) (x : X) → AllByRecursion P xs → P x → AllByRecursion P (xs ++ x ∷ [])
all_snoc P [] x h p = (p, tt)
all_snoc P (y ∷ ys) x h p = (h.0, all_snoc P ys x h.1 p)

-- ---- calls without body

pub import_told : (a b : List ℤ) (is : List TypedInvariant) (n : ℕ) → n ≡ length is → (old one two three four : List (Option ℤ)) → one ≡ old ++ map Some a → two ≡ one ++ map Some b → three ≡ two ++ replicate n None → four ≡ three ++ replicate 1 None →
    four ≡ old ++ import_choices (a ++ b) is
import_told a b is n many old one two three four e f g h =
    two_steps (old) one four (map Some a) (map Some b ++ (none_for is ++ None ∷ []))
    e (two_steps one two four (map Some b) (none_for is ++ None ∷ []) f (two_steps two three four (none_for is) (None ∷ []) (g ∙ ap (λ (l : List (Option ℤ)). two ++ l) (ap (λ (m : ℕ). replicate m None) many ∙ sym (none_many is))) h))
    ∙ ap (λ (l : List (Option ℤ)). old ++ l) (sym (append_assoc (map Some a) (map Some b) (none_for is ++ None ∷ [])) ∙ ap (λ (l : List (Option ℤ)). l ++ (none_for is ++ None ∷ [])) (sym (map-append Some a b)))
