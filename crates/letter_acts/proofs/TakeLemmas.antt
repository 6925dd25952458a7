-- The loop that gives each target a result.
use Rattle.std.proofs.Common.{◌≡◌, ◌↔◌, ◌∙◌, ℕ, suc, ◌+◌, ◌<◌, ◌≤◌, true, false, List, ◌∷◌, Some, length, drop, get_or, refl, sym, ap, arith}
use Rattle.std.proofs.lemmas.List.{drop_more, drop_all}
use Rattle.std.proofs.lemmas.Option.{slice_get_read}
use Rattle.std.specs.Option.{option_map}
use Rattle.boogie_tree.specs.declared.tree.Column.{Column}
use Rattle.boogie_tree.specs.declared.tree.VarInfo.{VarInfo}
use Rattle.letter_acts.specs.Frames.{Columns, places, added, is_result}
use Rattle.letter_acts.specs.Invariant.{Take, type_at}
use Rattle.letter_acts.proofs.LoopLemmas.{drop_at, so, not_so}

-- what is left of the results, from a column that is one
results_pass : (callee : Columns) (i : ℕ) (x : Column × VarInfo) → x ≡ get_or callee i x → i < length callee → is_result x ≡ true →
    places is_result i (drop i callee) ≡ i ∷ places is_result (i + 1) (drop (i + 1) callee)
results_pass callee i x e l t =
    let k : i + 1 ≡ suc i = omega arith in
    ap (λ ys. places is_result i ys) (drop_at callee i x x e l)
    ∙ ap (λ b. added b i (places is_result (suc i) (drop (i + 1) callee))) t
    ∙ ap (λ n. i ∷ places is_result n (drop (i + 1) callee)) (sym k)

-- from a column that is none
pub results_miss : (callee : Columns) (i : ℕ) (x : Column × VarInfo) → x ≡ get_or callee i x → i < length callee → is_result x ≡ false →
    places is_result i (drop i callee) ≡ places is_result (i + 1) (drop (i + 1) callee)
results_miss callee i x e l t =
    let k : i + 1 ≡ suc i = omega arith in
    ap (λ ys. places is_result i ys) (drop_at callee i x x e l)
    ∙ ap (λ b. added b i (places is_result (suc i) (drop (i + 1) callee))) t
    ∙ ap (λ n. places is_result n (drop (i + 1) callee)) (sym k)

type_is : (callee : Columns) (i : ℕ) (x : Column × VarInfo) → x ≡ get_or callee i x → i < length callee → type_at callee i ≡ Some x.1.ty
type_is callee i x e l = ap (λ o. option_map (λ v. v.1.ty) o) (slice_get_read callee (length callee) i x refl l e)

pub take_miss : (caller callee : Columns) (left : List ℕ) (Q : Type 0) (i : ℕ) (x : Column × VarInfo) → x ≡ get_or callee i x → i < length callee → is_result x ≡ false →
    (Take caller callee left (places is_result i (drop i callee)) ↔ Q) → Take caller callee left (places is_result (i + 1) (drop (i + 1) callee)) ↔ Q
take_miss caller callee left Q i x e l t h = rw (results_miss callee i x e l t) at h

pub take_pass : (caller callee : Columns) (targets : List ℕ) (Q : Type 0) (n i : ℕ) (x : Column × VarInfo) → x ≡ get_or callee i x → i < length callee → is_result x ≡ true →
    n < length targets → type_at caller (get_or targets n 0) ≡ Some x.1.ty →
    (Take caller callee (drop n targets) (places is_result i (drop i callee)) ↔ Q) →
    Take caller callee (drop (n + 1) targets) (places is_result (i + 1) (drop (i + 1) callee)) ↔ Q
take_pass caller callee targets Q n i x e l t m y h =
    let k = rw (results_pass callee i x e l t, drop_more targets n 0 m) at h in
    (λ a. k.0 (y ∙ sym (type_is callee i x e l), a), λ q. (k.1 q).1)

pub take_stops : (caller callee : Columns) (targets : List ℕ) (Q : Type 0) (n i : ℕ) (x : Column × VarInfo) → x ≡ get_or callee i x → i < length callee → is_result x ≡ true →
    n < length targets → (type_at caller (get_or targets n 0) ≡ Some x.1.ty → ⊥) →
    (Take caller callee (drop n targets) (places is_result i (drop i callee)) ↔ Q) → (false ≡ true) ↔ Q
take_stops caller callee targets Q n i x e l t m y h =
    let k = rw (results_pass callee i x e l t, drop_more targets n 0 m) at h in
    not_so Q (λ q. y ((k.1 q).0 ∙ type_is callee i x e l))

-- all targets are served
pub take_done : (caller callee : Columns) (targets rest : List ℕ) (Q : Type 0) (n : ℕ) → length targets ≤ n → (Take caller callee (drop n targets) rest ↔ Q) → (true ≡ true) ↔ Q
take_done caller callee targets rest Q n l h = let k = rw (drop_all n targets l) at h in so Q (k.0 tt)

-- no result is left
pub take_short : (caller callee : Columns) (targets : List ℕ) (Q : Type 0) (n i : ℕ) → n < length targets → length callee ≤ i →
    (Take caller callee (drop n targets) (places is_result i (drop i callee)) ↔ Q) → (false ≡ true) ↔ Q
take_short caller callee targets Q n i m l h = let k = rw (drop_all i callee l, drop_more targets n 0 m) at h in not_so Q (λ q. k.1 q)
