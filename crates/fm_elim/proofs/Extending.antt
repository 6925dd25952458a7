-- A point is extended by the value of one more column: which rows hold there.
use Rattle.std.proofs.Common.{◌≡◌, ℕ, zero, suc, ◌≤◌, ℤ, pos, neg_ℤ, ◌+ℤ◌, ◌-ℤ◌, ◌*ℤ◌, ◌≤ℤ◌, ◌<ℤ◌, List, [], ◌∷◌, ◌++◌, length, get_or, refl, sym, ap, ◌∙◌, subst, inl, inr, ◌⊎◌, arith}
use Rattle.std.proofs.Math.Seq.{get_or-append_seam}
use Rattle.std.proofs.lemmas.Bool.{cases_eq}
use Rattle.std.proofs.lemmas.Int.{ints}
use Rattle.math_facts.specs.Terms.{dot, with_value}
use Rattle.math_facts.proofs.Whole.{product_comm, product_assoc, product_swap, product_monotone, product_antitone, product_zero_left, product_zero_right, product_one_right, distrib_right, product_neg_left, cancel_order}
use Rattle.math_facts.proofs.TermLaws.{dot-with_value_at, with_value_here, with_value_other}
use Rattle.frac.specs.Fractions.{Fraction}
use Rattle.frac.proofs.Factors.{product_right_swap, product_inner}
use Rattle.lin_rows.specs.declared.types.RowKind.{RowKind}
use Rattle.lin_rows.specs.declared.types.RowKind.TheVariants.{Le, Eq}
use Rattle.lin_rows.specs.Rows.{Stands}
use Rattle.fm_elim.specs.Quotients.{whole}
use Rattle.fm_elim.specs.Derivations.{DerivedRow, at}
use Rattle.fm_elim.specs.Values.{value_at}
use Rattle.fm_elim.specs.Worth.{HoldsAt}
use Rattle.fm_elim.proofs.FractionLaws.{Is, positive_product}
use Rattle.fm_elim.proofs.Ends.{AreValues, room}
use Rattle.fm_elim.proofs.Between.{AtMost}

-- the numerators over the new common denominator
abbrev pub wider : ℤ → (ℕ → ℤ) → ℕ → Fraction → ℕ → ℤ
wider d p k v = with_value (λ c. p c *ℤ v.den) k (v.num *ℤ d)

-- ---- the values

pub at_end : (values : List Fraction) (v : Fraction) (c : ℕ) → length values ≡ c → value_at (values ++ v ∷ []) c ≡ v
at_end values v c e = subst (λ (n : ℕ). get_or (values ++ v ∷ []) n (whole (pos 0)) ≡ v) e (get_or-append_seam values v [] (whole (pos 0)))

pub past_end : (values : List Fraction) (c : ℕ) → length values ≤ c → value_at values c ≡ whole (pos 0)
past_end [] c l = refl
past_end (x ∷ values) zero l = absurd (omega arith)
past_end (x ∷ values) (suc c) l = past_end values c (omega arith)

pub not_at_end : (values : List Fraction) (v : Fraction) (c : ℕ) → (length values ≡ c → ⊥) → value_at (values ++ v ∷ []) c ≡ value_at values c
not_at_end [] v zero n = absurd (n refl)
not_at_end [] v (suc c) n = refl
not_at_end (x ∷ values) v zero n = refl
not_at_end (x ∷ values) v (suc c) n = not_at_end values v c (λ (e : length values ≡ c). n (omega arith))

wider_value : (x : Fraction) (m d : ℤ) (v : Fraction) → Is x m d → Is x (m *ℤ v.den) (d *ℤ v.den)
wider_value x m d v h = record {
  positive = h.positive;
  ratio = sym (product_assoc x.num d v.den) ∙ ap (λ (z : ℤ). z *ℤ v.den) h.ratio ∙ product_right_swap m x.den v.den;
}

own_value : (d : ℤ) (v : Fraction) → pos 0 <ℤ v.den → Is v (v.num *ℤ d) (d *ℤ v.den)
own_value d v p = record { positive = p; ratio = sym (product_assoc v.num d v.den) }

pub extended_values : (k : ℕ) (values : List Fraction) (d : ℤ) (p : ℕ → ℤ) (v : Fraction) → length values ≡ k → pos 0 <ℤ v.den → AreValues values d p →
    AreValues (values ++ v ∷ []) (d *ℤ v.den) (wider d p k v)
extended_values k values d p v e q h = record { positive = positive_product d v.den h.positive q; each = λ c. at_column c (cases_eq k c) }
  where
    at_column : (c : ℕ) → ((k ≡ c) ⊎ (k ≡ c → ⊥)) → Is (value_at (values ++ v ∷ []) c) (wider d p k v c) (d *ℤ v.den)
    at_column c (inl i) =
        let s : wider d p k v c ≡ v.num *ℤ d = ap (wider d p k v) (sym i) ∙ with_value_here (λ c. p c *ℤ v.den) k (v.num *ℤ d) in
        subst (λ (z : ℤ). Is (value_at (values ++ v ∷ []) c) z (d *ℤ v.den)) (sym s)
        (subst (λ (x : Fraction). Is x (v.num *ℤ d) (d *ℤ v.den)) (sym (at_end values v c (e ∙ i))) (own_value d v q))
    at_column c (inr n) =
        subst (λ (z : ℤ). Is (value_at (values ++ v ∷ []) c) z (d *ℤ v.den)) (sym (with_value_other (λ c. p c *ℤ v.den) k (v.num *ℤ d) c n))
        (subst (λ (x : Fraction). Is x (p c *ℤ v.den) (d *ℤ v.den)) (sym (not_at_end values v c (λ (u : length values ≡ c). n (sym e ∙ u))))
        (wider_value (value_at values c) (p c) d v (h.each c)))

-- a column without a value counts as 0
pub none_at_end : (k : ℕ) (values : List Fraction) (d : ℤ) (p : ℕ → ℤ) → length values ≡ k → AreValues values d p → p k ≡ pos 0
none_at_end k values d p e h =
    let r : (value_at values k).num *ℤ d ≡ p k *ℤ (value_at values k).den = (h.each k).ratio in
    let s : value_at values k ≡ whole (pos 0) = past_end values k (omega arith) in
    let t : pos 0 *ℤ d ≡ p k *ℤ pos 1 = subst (λ (x : Fraction). x.num *ℤ d ≡ p k *ℤ x.den) s r in
    let o : p k *ℤ pos 1 ≡ p k = product_one_right (p k) in
    let z : pos 0 *ℤ d ≡ pos 0 = product_zero_left d in
    omega (arith, ints)

-- ---- the rows

dot_wider : (p : ℕ → ℤ) (m : ℤ) (ts : List (ℕ × ℤ)) → dot (λ c. p c *ℤ m) ts ≡ dot p ts *ℤ m
dot_wider p m [] = sym (product_zero_left m)
dot_wider p m (t ∷ ts) =
    let e : dot (λ c. p c *ℤ m) ts ≡ dot p ts *ℤ m = dot_wider p m ts in
    let f : (t.1 *ℤ p t.0) *ℤ m ≡ t.1 *ℤ (p t.0 *ℤ m) = product_assoc t.1 (p t.0) m in
    let g : ((t.1 *ℤ p t.0) +ℤ dot p ts) *ℤ m ≡ ((t.1 *ℤ p t.0) *ℤ m) +ℤ (dot p ts *ℤ m) = distrib_right (t.1 *ℤ p t.0) (dot p ts) m in
    omega (arith, ints)

-- the value of a row at the wider point
pub dot_extended : (d : ℤ) (p : ℕ → ℤ) (k : ℕ) (v : Fraction) (r : DerivedRow) → p k ≡ pos 0 →
    dot (wider d p k v) r.row.terms ≡ (dot p r.row.terms *ℤ v.den) +ℤ (at k r *ℤ (v.num *ℤ d))
dot_extended d p k v r z =
    let q : ℕ → ℤ = λ c. p c *ℤ v.den in
    let e : dot (wider d p k v) r.row.terms +ℤ (at k r *ℤ q k) ≡ dot q r.row.terms +ℤ (at k r *ℤ (v.num *ℤ d)) = dot-with_value_at q k (v.num *ℤ d) r.row.terms in
    let f : dot q r.row.terms ≡ dot p r.row.terms *ℤ v.den = dot_wider p v.den r.row.terms in
    let g : q k ≡ pos 0 *ℤ v.den = ap (λ (x : ℤ). x *ℤ v.den) z in
    let h : pos 0 *ℤ v.den ≡ pos 0 = product_zero_left v.den in
    let i : at k r *ℤ q k ≡ at k r *ℤ pos 0 = ap (λ (x : ℤ). at k r *ℤ x) (g ∙ h) in
    let j : at k r *ℤ pos 0 ≡ pos 0 = product_zero_right (at k r) in
    omega (arith, ints)

stands_wider : (kind : RowKind) (s b d m : ℤ) → pos 0 <ℤ m → Stands kind s (b *ℤ d) → Stands kind (s *ℤ m) (b *ℤ (d *ℤ m))
stands_wider Le s b d m p h =
    let k : (m *ℤ s) ≤ℤ (m *ℤ (b *ℤ d)) = product_monotone m s (b *ℤ d) (omega (arith, ints)) h in
    let e : m *ℤ s ≡ s *ℤ m = product_comm m s in
    let f : m *ℤ (b *ℤ d) ≡ b *ℤ (d *ℤ m) = product_comm m (b *ℤ d) ∙ product_assoc b d m in
    omega (arith, ints)
stands_wider Eq s b d m p h = ap (λ (x : ℤ). x *ℤ m) h ∙ product_assoc b d m

-- a row without the column holds as before
pub stays : (d : ℤ) (p : ℕ → ℤ) (k : ℕ) (v : Fraction) (r : DerivedRow) → p k ≡ pos 0 → pos 0 <ℤ v.den → at k r ≡ pos 0 →
    HoldsAt d p r.row → HoldsAt (d *ℤ v.den) (wider d p k v) r.row
stays d p k v r z q e h =
    let a : dot (wider d p k v) r.row.terms ≡ (dot p r.row.terms *ℤ v.den) +ℤ (at k r *ℤ (v.num *ℤ d)) = dot_extended d p k v r z in
    let b : at k r *ℤ (v.num *ℤ d) ≡ pos 0 *ℤ (v.num *ℤ d) = ap (λ (x : ℤ). x *ℤ (v.num *ℤ d)) e in
    let c : pos 0 *ℤ (v.num *ℤ d) ≡ pos 0 = product_zero_left (v.num *ℤ d) in
    let s : dot p r.row.terms *ℤ v.den ≡ dot (wider d p k v) r.row.terms = omega (arith, ints) in
    subst (λ (x : ℤ). Stands r.row.kind x (r.row.bound *ℤ (d *ℤ v.den))) s
    (stands_wider r.row.kind (dot p r.row.terms) r.row.bound d v.den q h)

-- the room of a row, over the wider denominator
room_wider : (d : ℤ) (p : ℕ → ℤ) (v : Fraction) (r : DerivedRow) → room d p r *ℤ v.den ≡ (r.row.bound *ℤ (d *ℤ v.den)) -ℤ (dot p r.row.terms *ℤ v.den)
room_wider d p v r =
    let b : ℤ = r.row.bound in
    let s : ℤ = dot p r.row.terms in
    let e : room d p r ≡ (b *ℤ d) +ℤ neg_ℤ s = omega (arith, ints) in
    let f : room d p r *ℤ v.den ≡ ((b *ℤ d) +ℤ neg_ℤ s) *ℤ v.den = ap (λ (x : ℤ). x *ℤ v.den) e in
    let g : ((b *ℤ d) +ℤ neg_ℤ s) *ℤ v.den ≡ ((b *ℤ d) *ℤ v.den) +ℤ (neg_ℤ s *ℤ v.den) = distrib_right (b *ℤ d) (neg_ℤ s) v.den in
    let h : neg_ℤ s *ℤ v.den ≡ neg_ℤ (s *ℤ v.den) = product_neg_left s v.den in
    let i : (b *ℤ d) *ℤ v.den ≡ b *ℤ (d *ℤ v.den) = product_assoc b d v.den in
    omega (arith, ints)

-- an inequality holds where the value takes no more than the room
holds_with_room : (d : ℤ) (p : ℕ → ℤ) (k : ℕ) (v : Fraction) (r : DerivedRow) → p k ≡ pos 0 → r.row.kind ≡ Le →
    ((at k r *ℤ d) *ℤ v.num) ≤ℤ (room d p r *ℤ v.den) → HoldsAt (d *ℤ v.den) (wider d p k v) r.row
holds_with_room d p k v r z e h =
    let a : dot (wider d p k v) r.row.terms ≡ (dot p r.row.terms *ℤ v.den) +ℤ (at k r *ℤ (v.num *ℤ d)) = dot_extended d p k v r z in
    let b : room d p r *ℤ v.den ≡ (r.row.bound *ℤ (d *ℤ v.den)) -ℤ (dot p r.row.terms *ℤ v.den) = room_wider d p v r in
    let c : (at k r *ℤ d) *ℤ v.num ≡ at k r *ℤ (v.num *ℤ d) = product_assoc (at k r) d v.num ∙ ap (λ (x : ℤ). at k r *ℤ x) (product_comm d v.num) in
    subst (λ (kind : RowKind). Stands kind (dot (wider d p k v) r.row.terms) (r.row.bound *ℤ (d *ℤ v.den))) (sym e)
    (let l : dot (wider d p k v) r.row.terms ≤ℤ (r.row.bound *ℤ (d *ℤ v.den)) = omega (arith, ints) in l)

-- what the end leaves, where m times the value is at most m times the end
within_room : (m room vn vd en ed : ℤ) → pos 0 <ℤ ed → en *ℤ m ≡ room *ℤ ed → (m *ℤ (vn *ℤ ed)) ≤ℤ (m *ℤ (en *ℤ vd)) → (m *ℤ vn) ≤ℤ (room *ℤ vd)
within_room m room vn vd en ed p e h =
    let f : ed *ℤ (m *ℤ vn) ≡ m *ℤ (vn *ℤ ed) = product_comm ed (m *ℤ vn) ∙ product_assoc m vn ed in
    let g : ed *ℤ (room *ℤ vd) ≡ m *ℤ (en *ℤ vd) =
    product_inner ed room vd ∙ ap (λ (x : ℤ). x *ℤ vd) (sym e ∙ product_comm en m) ∙ product_assoc m en vd in
    cancel_order ed (m *ℤ vn) (room *ℤ vd) p (omega (arith, ints))

-- an upper bound holds at a value up to its end
pub upper_holds : (d : ℤ) (p : ℕ → ℤ) (k : ℕ) (v end : Fraction) (r : DerivedRow) → p k ≡ pos 0 → pos 0 <ℤ d → r.row.kind ≡ Le → pos 0 <ℤ at k r →
    Is end (room d p r) (at k r *ℤ d) → AtMost v end → HoldsAt (d *ℤ v.den) (wider d p k v) r.row
upper_holds d p k v end r z q e a i h =
    let m : ℤ = at k r *ℤ d in
    let l : pos 0 <ℤ m = positive_product (at k r) d a q in
    holds_with_room d p k v r z e
    (within_room m (room d p r) v.num v.den end.num end.den i.positive i.ratio
    (product_monotone m (v.num *ℤ end.den) (end.num *ℤ v.den) (omega (arith, ints)) h.order))

-- a lower bound holds at a value from its end on
pub lower_holds : (d : ℤ) (p : ℕ → ℤ) (k : ℕ) (v end : Fraction) (r : DerivedRow) → p k ≡ pos 0 → pos 0 <ℤ d → r.row.kind ≡ Le → at k r <ℤ pos 0 →
    Is end (room d p r) (at k r *ℤ d) → AtMost end v → HoldsAt (d *ℤ v.den) (wider d p k v) r.row
lower_holds d p k v end r z q e a i h =
    let m : ℤ = at k r *ℤ d in
    let o : pos 0 <ℤ (neg_ℤ (at k r) *ℤ d) = positive_product (neg_ℤ (at k r)) d (omega (arith, ints)) q in
    let s : neg_ℤ (at k r) *ℤ d ≡ neg_ℤ m = product_neg_left (at k r) d in
    holds_with_room d p k v r z e
    (within_room m (room d p r) v.num v.den end.num end.den i.positive i.ratio
    (product_antitone m (end.num *ℤ v.den) (v.num *ℤ end.den) (omega (arith, ints)) h.order))

-- an equality holds at its end
pub forced_holds : (d : ℤ) (p : ℕ → ℤ) (k : ℕ) (v : Fraction) (r : DerivedRow) → p k ≡ pos 0 → Is v (room d p r) (at k r *ℤ d) →
    dot (wider d p k v) r.row.terms ≡ r.row.bound *ℤ (d *ℤ v.den)
forced_holds d p k v r z i =
    let a : dot (wider d p k v) r.row.terms ≡ (dot p r.row.terms *ℤ v.den) +ℤ (at k r *ℤ (v.num *ℤ d)) = dot_extended d p k v r z in
    let b : room d p r *ℤ v.den ≡ (r.row.bound *ℤ (d *ℤ v.den)) -ℤ (dot p r.row.terms *ℤ v.den) = room_wider d p v r in
    let c : v.num *ℤ (at k r *ℤ d) ≡ at k r *ℤ (v.num *ℤ d) = product_swap v.num (at k r) d in
    let e : v.num *ℤ (at k r *ℤ d) ≡ room d p r *ℤ v.den = i.ratio in
    omega (arith, ints)
