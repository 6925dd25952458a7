-- Names of columns of one kind.
use Rattle.std.proofs.Common.{◌≡◌, ◌↔◌, ◌∙◌, ℕ, ◌+◌, ◌-◌, ◌<◌, ◌≤◌, Bool, true, false, cond, List, [], ◌∷◌, map, length, take, drop, get_or, refl, sym, ap, subst, inl, inr}
use Rattle.std.specs.Prelude.{filter}
use Rattle.std.proofs.lemmas.Bool.{false≢true}
use Rattle.std.proofs.lemmas.List.{drop_all}
use Rattle.boogie_tree.specs.declared.tree.Column.{Column}
use Rattle.boogie_tree.specs.declared.tree.VarInfo.{VarInfo}
use Rattle.nwa_base.specs.Members.{Member}
use Rattle.letter_acts.specs.Frames.{Columns}
use Rattle.letter_acts.specs.Invariant.{AreDistinct, names_where}
use Rattle.letter_acts.proofs.LoopLemmas.{drop_at, slice_rest, so, not_so}

not_named : (b : Bool) (x : Column × VarInfo) (xs : Columns) (name : List ℕ) → ((b ≡ true) × (x.1.name ≡ name) → ⊥) → Member (map (λ c. c.1.name) (cond b (x ∷ xs) xs)) name ↔ Member (map (λ c. c.1.name) xs) name
not_named true x xs name n = (λ m. elim m [ inl e ↦ absurd (n (refl, e)) | inr k ↦ k ], λ m. inr m)
not_named false x xs name n = (λ m. m, λ m. m)

pub name_step : (test : Column × VarInfo → Bool) (Q : Type 0) (frame : Columns) (i : ℕ) (x d : Column × VarInfo) (name : List ℕ) → x ≡ get_or frame i d → i < length frame →
    ((test x ≡ true) × (x.1.name ≡ name) → ⊥) → (Member (names_where test (drop i frame)) name ↔ Q) → Member (names_where test (drop (i + 1) frame)) name ↔ Q
name_step test Q frame i x d name e l n h =
    let k = subst (λ (xs : Columns). Member (names_where test xs) name ↔ Q) (drop_at frame i x d e l) h in
    let s = not_named (test x) x (filter test (drop (i + 1) frame)) name n in
    (λ m. k.0 (s.1 m), λ q. s.0 (k.1 q))

named : (b : Bool) (x : Column × VarInfo) (xs : Columns) (name : List ℕ) → b ≡ true → x.1.name ≡ name → Member (map (λ c. c.1.name) (cond b (x ∷ xs) xs)) name
named true x xs name t e = inl e
named false x xs name t e = absurd (false≢true t)

pub name_found : (test : Column × VarInfo → Bool) (Q : Type 0) (frame : Columns) (i : ℕ) (x d : Column × VarInfo) (name : List ℕ) → x ≡ get_or frame i d → i < length frame →
    (test x ≡ true) × (x.1.name ≡ name) → (Member (names_where test (drop i frame)) name ↔ Q) → (true ≡ true) ↔ Q
name_found test Q frame i x d name e l t h =
    so Q (h.0 (subst (λ (xs : Columns). Member (names_where test xs) name) (sym (drop_at frame i x d e l)) (named (test x) x (filter test (drop (i + 1) frame)) name t.0 t.1)))

unrepeated : (b : Bool) (x : Column × VarInfo) (xs : Columns) → ((b ≡ true) × Member (map (λ c. c.1.name) xs) x.1.name → ⊥) →
    AreDistinct (map (λ c. c.1.name) (cond b (x ∷ xs) xs)) ↔ AreDistinct (map (λ c. c.1.name) xs)
unrepeated true x xs n = (λ a. a.1, λ a. (λ m. n (refl, m), a))
unrepeated false x xs n = (λ a. a, λ a. a)

pub differ_step : (test : Column × VarInfo → Bool) (Q : Type 0) (frame : Columns) (i : ℕ) (x d : Column × VarInfo) → x ≡ get_or frame i d → i < length frame →
    ((test x ≡ true) × Member (names_where test (take (length frame - (i + 1)) (drop (i + 1) frame))) x.1.name → ⊥) →
    (AreDistinct (names_where test (drop i frame)) ↔ Q) → AreDistinct (names_where test (drop (i + 1) frame)) ↔ Q
differ_step test Q frame i x d e l n h =
    let k = subst (λ (xs : Columns). AreDistinct (names_where test xs) ↔ Q) (drop_at frame i x d e l) h in
    let m = subst (λ (xs : Columns). (test x ≡ true) × Member (names_where test xs) x.1.name → ⊥) (slice_rest frame i) n in
    let s = unrepeated (test x) x (filter test (drop (i + 1) frame)) m in
    (λ a. k.0 (s.1 a), λ q. s.0 (k.1 q))

repeated : (b : Bool) (x : Column × VarInfo) (xs : Columns) → b ≡ true → Member (map (λ c. c.1.name) xs) x.1.name → AreDistinct (map (λ c. c.1.name) (cond b (x ∷ xs) xs)) → ⊥
repeated true x xs t m a = a.0 m
repeated false x xs t m a = false≢true t

pub differ_stop : (test : Column × VarInfo → Bool) (Q : Type 0) (frame : Columns) (i : ℕ) (x d : Column × VarInfo) → x ≡ get_or frame i d → i < length frame →
    (test x ≡ true) × Member (names_where test (take (length frame - (i + 1)) (drop (i + 1) frame))) x.1.name →
    (AreDistinct (names_where test (drop i frame)) ↔ Q) → (false ≡ true) ↔ Q
differ_stop test Q frame i x d e l t h =
    let k = subst (λ (xs : Columns). AreDistinct (names_where test xs) ↔ Q) (drop_at frame i x d e l) h in
    let m = subst (λ (xs : Columns). (test x ≡ true) × Member (names_where test xs) x.1.name) (slice_rest frame i) t in
    not_so Q (λ q. repeated (test x) x (filter test (drop (i + 1) frame)) m.0 m.1 (k.1 q))

-- what a list of names begins with, at a column that passes the test, or not
pub name_in_front : (test : Column × VarInfo → Bool) (frame : Columns) (i : ℕ) (x d : Column × VarInfo) → x ≡ get_or frame i d → i < length frame → test x ≡ true →
    names_where test (drop i frame) ≡ x.1.name ∷ names_where test (drop (i + 1) frame)
name_in_front test frame i x d e l t = ap (names_where test) (drop_at frame i x d e l) ∙ front (test x) x (filter test (drop (i + 1) frame)) t
  where
    front : (b : Bool) (x : Column × VarInfo) (xs : Columns) → b ≡ true → map (λ c. c.1.name) (cond b (x ∷ xs) xs) ≡ x.1.name ∷ map (λ c. c.1.name) xs
    front true x xs e = refl
    front false x xs e = absurd (false≢true e)

pub no_name_in_front : (test : Column × VarInfo → Bool) (frame : Columns) (i : ℕ) (x d : Column × VarInfo) → x ≡ get_or frame i d → i < length frame → test x ≡ false →
    names_where test (drop i frame) ≡ names_where test (drop (i + 1) frame)
no_name_in_front test frame i x d e l t = ap (names_where test) (drop_at frame i x d e l) ∙ front (test x) x (filter test (drop (i + 1) frame)) t
  where
    front : (b : Bool) (x : Column × VarInfo) (xs : Columns) → b ≡ false → map (λ c. c.1.name) (cond b (x ∷ xs) xs) ≡ map (λ c. c.1.name) xs
    front true x xs e = absurd (false≢true (sym e))
    front false x xs e = refl

-- no column is left
pub no_names_left : (test : Column × VarInfo → Bool) (frame : Columns) (i : ℕ) → length frame ≤ i → names_where test (drop i frame) ≡ []
no_names_left test frame i l = ap (names_where test) (drop_all i frame l)
