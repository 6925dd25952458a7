-- What letters allow, by construction and column by column.
use Rattle.std.proofs.Common.{◌≡◌, ◌↔◌, ◌∙◌, ℕ, zero, suc, ◌+◌, ◌<◌, ◌≤◌, ℤ, List, [], ◌∷◌, ◌++◌, length, take, drop, refl, sym, ap, subst, inl, inr, arith, take-append-drop, length-append, length-drop}
use Rattle.std.specs.Prelude.{map, false, slice_set}
use Rattle.std.specs.List.{AllByRecursion}
use Rattle.std.proofs.lemmas.List.{length-take-le, drop_at}
use Rattle.boogie_tree.specs.declared.tree.VarInfo.{VarInfo}
use Rattle.lin_rows.specs.Rows.{LinearRow}
use Rattle.lin_rows.specs.Points.{point_of}
use Rattle.nwa_base.specs.Members.{Member}
use Rattle.letter_acts.specs.Frames.{Columns, IsFrame, IsState, is_old_column, globals_of, constants_of, variables_of, result_columns, olds_of}
use Rattle.letter_acts.specs.Acts.{Alphabet, frame_of}
use Rattle.letter_acts.specs.Values.{picked, put_all, RowsHold}
use Rattle.letter_acts.specs.Meaning.{InsideLeads, CallLeads, BackLeads}
use Rattle.letter_acts.specs.Reading.{InsideReads, CallReads, BackReads, taken}
use Rattle.letter_acts.specs.Invariant.{AreDistinct, MayWrite, MayTarget, InsideIsActed, BackIsActed, Take}
use Rattle.letter_acts.proofs.ListLemmas.{below_or_from, member_or_not, all_weaker, all_member, all_from_members, some_within, maps_equal, map_map, counted_up, counted_up_member, counted_up_below}
use Rattle.letter_acts.proofs.PointLemmas.{point_of-left, point_of-right, point_of-take, point_of-drop, state_length, set_here, within_set, put_all_other, picked_put, put_picked}
use Rattle.letter_acts.proofs.FrameLemmas.{globals_are, global_count, variable_or_constant, variable_below, IsConsecutive, olds_consecutive, olds_of_variables, olds_within}

-- columns that an act may write are within the values
written_within : (frame : Columns) (s : List ℤ) (written : List ℕ) → IsState frame s → AllByRecursion (MayWrite frame) written → AllByRecursion (λ c. c < length s) written
written_within frame s written g h =
    all_weaker (MayWrite frame) (λ c. c < length s)
    (λ c k. let w = some_within (λ v. v.1.constant ≡ false) frame c k in let l = state_length frame s g in omega (arith, w, l)) written h

pub inside_read : (al : Alphabet) (p : ℕ) (written : List ℕ) (helpers : ℕ) (rows : List LinearRow) (s t : List ℤ) → InsideIsActed al p written helpers rows →
    InsideLeads (frame_of al p) written helpers rows s t ↔ InsideReads (frame_of al p) written helpers rows s t
inside_read al p written helpers rows s t act = (
  λ h.
      let n : picked t written ≡ h.news =
      ap (λ (l : List ℤ). picked l written) h.put ∙
      picked_put s written h.news act.distinct (written_within (frame_of al p) s written h.before act.may_write) h.as_many in
      record {
        before = h.before;
        after = h.after;
        others = λ c m. ap (λ (l : List ℤ). point_of l c) h.put ∙ put_all_other s written h.news c m;
        rows_hold = subst (λ (l : List ℤ). RowsHold (s ++ l) helpers rows) (sym n) h.rows_hold;
      },
  λ h. record {
    before = h.before;
    after = h.after;
    news = picked t written;
    as_many = length-picked t written;
    put = put_picked s t written (state_length (frame_of al p) s h.before ∙ sym (state_length (frame_of al p) t h.after)) h.others;
    rows_hold = h.rows_hold;
  },
)
  where
    length-picked : (t : List ℤ) (cs : List ℕ) → length (picked t cs) ≡ length cs
    length-picked t [] = refl
    length-picked t (c ∷ cs) = ap suc (length-picked t cs)

-- old columns that stand from n on read as the globals where the values from n on are the globals' values
olds_read : (s t : List ℤ) (n : ℕ) (os : List (ℕ × ℕ)) (rest : List ℤ) → IsConsecutive n os → drop n t ≡ map (λ o. point_of s o.1) os ++ rest →
    AllByRecursion (λ o. point_of t o.0 ≡ point_of s o.1) os
olds_read s t n [] rest c e = tt
olds_read s t n (o ∷ os) rest c e =
    let at : point_of (drop n t) 0 ≡ point_of t o.0 = let i = c.0 in point_of-drop n t o.0 0 (omega (arith, i)) in
    let next : drop (suc n) t ≡ map (λ o. point_of s o.1) os ++ rest = drop_next t n (point_of s o.1) (map (λ o. point_of s o.1) os ++ rest) e in
    (sym at ∙ ap (λ (l : List ℤ). point_of l 0) e, olds_read s t (suc n) os rest c.1 next)
  where
    drop_next : (t : List ℤ) (n : ℕ) (x : ℤ) (xs : List ℤ) → drop n t ≡ x ∷ xs → drop (suc n) t ≡ xs
    drop_next [] zero x xs e = cc
    drop_next [] (suc n) x xs e = cc
    drop_next (y ∷ t) zero x xs e = let h : t ≡ xs = cc in h
    drop_next (y ∷ t) (suc n) x xs e = drop_next t n x xs e

olds_put : (s t : List ℤ) (n : ℕ) (os : List (ℕ × ℕ)) → IsConsecutive n os → n + length os ≤ length t → AllByRecursion (λ o. point_of t o.0 ≡ point_of s o.1) os →
    drop n t ≡ map (λ o. point_of s o.1) os ++ drop (n + length os) t
olds_put s t n [] c l h = ap (λ (k : ℕ). drop k t) (let e : n ≡ n + 0 = omega arith in e)
olds_put s t n (o ∷ os) c l h =
    let r = olds_put s t (suc n) os c.1 (omega (arith, l)) h.1 in
    let e : drop n t ≡ point_of t n ∷ drop (suc n) t = drop_front t n (omega (arith, l)) in
    let v : point_of t n ≡ point_of s o.1 = ap (point_of t) (sym c.0) ∙ h.0 in
    let k : suc n + length os ≡ n + suc (length os) = omega arith in
    e ∙ ap (λ (x : ℤ). x ∷ drop (suc n) t) v ∙ ap (λ (l : List ℤ). point_of s o.1 ∷ l) r ∙
    ap (λ (i : ℕ). (point_of s o.1 ∷ map (λ o. point_of s o.1) os) ++ drop i t) k
  where
    drop_front : (t : List ℤ) (n : ℕ) → n < length t → drop n t ≡ point_of t n ∷ drop (suc n) t
    drop_front [] n l = absurd (omega arith)
    drop_front (x ∷ t) zero l = refl
    drop_front (x ∷ t) (suc n) l = drop_front t n (omega arith)

-- the first values agree exactly where the points agree below
take_same : (n : ℕ) (s t : List ℤ) → n ≤ length s → n ≤ length t → ((c : ℕ) → c < n → point_of s c ≡ point_of t c) → take n s ≡ take n t
take_same zero s t l k h = refl
take_same (suc n) [] t l k h = absurd (omega arith)
take_same (suc n) (x ∷ s) [] l k h = absurd (omega arith)
take_same (suc n) (x ∷ s) (y ∷ t) l k h =
    let e : x ≡ y = h 0 (omega arith) in
    let r = take_same n s t (omega arith) (omega arith) (λ c b. h (suc c) (omega arith)) in
    cc

-- the values of the globals of the old columns are those of the globals that may change
olds_picked : (globals : List VarInfo) (callee : Columns) (s : List ℤ) → IsFrame globals callee → map (λ o. point_of s o.1) (olds_of callee) ≡ picked s (variables_of callee)
olds_picked globals callee s f =
    sym (map_map (λ (o : ℕ × ℕ). o.1) (point_of s) (olds_of callee)) ∙ ap (picked s) (olds_of_variables globals callee f)

pub call_read : (globals : List VarInfo) (caller callee : Columns) (helpers : ℕ) (rows : List LinearRow) (s t : List ℤ) →
    IsFrame globals caller → IsFrame globals callee → CallLeads caller callee helpers rows s t ↔ CallReads caller callee helpers rows s t
call_read globals caller callee helpers rows s t f g = (
  λ h.
      let long : length globals ≤ length s = let w = olds_within globals caller f in let l = state_length caller s h.before in omega (arith, w, l) in
      let n : length (globals_of callee) ≡ length globals = global_count globals callee g in
      let front : length (take (length globals) s) ≡ length globals = length-take-le (length globals) s long in
      let rest : List ℤ = picked s (variables_of callee) ++ h.locals in
      let e : t ≡ take (length globals) s ++ rest = h.entered ∙ ap (λ (k : ℕ). take k s ++ rest) n in
      record {
        before = h.before;
        after = h.after;
        globals = subst (AllByRecursion (λ c. point_of t c ≡ point_of s c)) (sym (globals_are globals callee g))
            (all_from_members (λ c. point_of t c ≡ point_of s c) (counted_up 0 (length globals))
            (λ c m.
            let b : c < length globals = let k = counted_up_below 0 (length globals) c m in omega (arith, k) in
            ap (λ (l : List ℤ). point_of l c) e ∙ point_of-left (take (length globals) s) rest c (omega (arith, front, b)) ∙
            point_of-take (length globals) s c b));
        olds = olds_read s t (length globals) (olds_of callee) h.locals (olds_consecutive globals callee g)
            (ap (drop (length globals)) e ∙ drop_at (take (length globals) s) rest (length globals) front ∙
            ap (λ (l : List ℤ). l ++ h.locals) (sym (olds_picked globals callee s g)));
        rows_hold = h.rows_hold;
      },
  λ h.
      let n : length (globals_of callee) ≡ length globals = global_count globals callee g in
      let long : length globals ≤ length s = let w = olds_within globals caller f in let l = state_length caller s h.before in omega (arith, w, l) in
      let within : length globals + length (olds_of callee) ≤ length t = let w = olds_within globals callee g in let l = state_length callee t h.after in omega (arith, w, l) in
      let locals : List ℤ = drop (length globals + length (olds_of callee)) t in
      let same : take (length globals) t ≡ take (length globals) s =
      take_same (length globals) t s (omega (arith, within)) long
      (λ c b. all_member (λ c. point_of t c ≡ point_of s c) (globals_of callee) c
      (subst (λ (l : List ℕ). Member l c) (sym (globals_are globals callee g)) (counted_up_member 0 (length globals) c (omega arith) (omega (arith, b)))) h.globals) in
      record {
        before = h.before;
        after = h.after;
        locals = locals;
        entered = sym (take-append-drop (length globals) t) ∙
            ap (λ (l : List ℤ). l ++ drop (length globals) t) same ∙
            ap (λ (l : List ℤ). take (length globals) s ++ l)
            (olds_put s t (length globals) (olds_of callee) (olds_consecutive globals callee g) within h.olds ∙
            ap (λ (l : List ℤ). l ++ locals) (olds_picked globals callee s g)) ∙
            ap (λ (k : ℕ). take k s ++ (picked s (variables_of callee) ++ locals)) (sym n);
        rows_hold = h.rows_hold;
      },
)

-- targets are within the caller's values
targets_within : (frame : Columns) (s : List ℤ) (targets : List ℕ) → length s ≡ length frame → AllByRecursion (MayTarget frame) targets → AllByRecursion (λ c. c < length s) targets
targets_within frame s targets g h =
    all_weaker (MayTarget frame) (λ c. c < length s)
    (λ c k. let w = some_within (λ v. (v.1.constant ≡ false) × (is_old_column v.0 ≡ false)) frame c k in omega (arith, w, g)) targets h

-- each target has the value of what it takes
put_taken : (s exit : List ℤ) (targets results : List ℕ) → AreDistinct targets → AllByRecursion (λ c. c < length s) targets →
    AllByRecursion (λ p. point_of (put_all s targets (picked exit results)) p.0 ≡ point_of exit p.1) (taken targets results)
put_taken s exit [] results d w = tt
put_taken s exit (t ∷ ts) [] d w = tt
put_taken s exit (t ∷ ts) (r ∷ rs) d w = (
  put_all_other (slice_set s t (point_of exit r)) ts (picked exit rs) t d.0 ∙ set_here s t (point_of exit r) w.0,
  put_taken (slice_set s t (point_of exit r)) exit ts rs d.1 (within_set s t (point_of exit r) ts w.1),
)

-- writing the targets' own values is writing the results
put_results : (caller callee : Columns) (s after exit : List ℤ) (targets results : List ℕ) → Take caller callee targets results →
    AllByRecursion (λ p. point_of after p.0 ≡ point_of exit p.1) (taken targets results) →
    put_all s targets (picked after targets) ≡ put_all s targets (picked exit results)
put_results caller callee s after exit [] results k h = refl
put_results caller callee s after exit (t ∷ ts) [] k h = absurd k
put_results caller callee s after exit (t ∷ ts) (r ∷ rs) k h =
    ap (λ (v : ℤ). put_all (slice_set s t v) ts (picked after ts)) h.0 ∙
    put_results caller callee (slice_set s t (point_of exit r)) after exit ts rs k.1 h.1

-- the values of the exit up to the globals, and those before the call from there on
joined_front : (n : ℕ) (exit before : List ℤ) (c : ℕ) → n ≤ length exit → c < n → point_of (take n exit ++ drop n before) c ≡ point_of exit c
joined_front n exit before c l b =
    let front = length-take-le n exit l in
    point_of-left (take n exit) (drop n before) c (omega (arith, front, b)) ∙ point_of-take n exit c b

joined_back : (n : ℕ) (exit before : List ℤ) (c k : ℕ) → n ≤ length exit → c ≡ n + k → point_of (take n exit ++ drop n before) c ≡ point_of before c
joined_back n exit before c k l e =
    let front = length-take-le n exit l in
    point_of-right (take n exit) (drop n before) c k (omega (arith, front, e)) ∙ point_of-drop n before c k e

joined_length : (n : ℕ) (exit before : List ℤ) → n ≤ length exit → n ≤ length before → length (take n exit ++ drop n before) ≡ length before
joined_length n exit before l k =
    let a = length-append (take n exit) (drop n before) in
    let b = length-take-le n exit l in
    let d = length-drop n before in
    omega (arith, a, b, d)

-- what both readings of a return share
pub record Returning (globals : List VarInfo) (caller callee : Columns) (exit before : List ℤ) : Type 0 where
  pub count : length (globals_of caller) ≡ length globals
  pub in_exit : length globals ≤ length exit
  pub in_before : length globals ≤ length before
  pub before_long : length before ≡ length caller

returning : (globals : List VarInfo) (caller callee : Columns) (exit before : List ℤ) → IsFrame globals caller → IsFrame globals callee →
    IsState callee exit → IsState caller before → Returning globals caller callee exit before
returning globals caller callee exit before f g x b =
    let l = state_length callee exit x in
    let k = state_length caller before b in
    let w = olds_within globals callee g in
    let v = olds_within globals caller f in
    record { count = global_count globals caller f; in_exit = omega (arith, l, w); in_before = omega (arith, k, v); before_long = k }

-- of the columns that are no targets, the globals that may change are as at the exit, and all others as before the call
not_written : (globals : List VarInfo) (caller callee : Columns) (exit before : List ℤ) → IsFrame globals caller → IsFrame globals callee → Returning globals caller callee exit before →
    AllByRecursion (λ c. point_of exit c ≡ point_of before c) (constants_of callee) → (c : ℕ) → (Member (variables_of caller) c → ⊥) →
    point_of (take (length globals) exit ++ drop (length globals) before) c ≡ point_of before c
not_written globals caller callee exit before f g r h c n = elim (below_or_from c (length globals)) [
  | inl b ↦
      joined_front (length globals) exit before c r.in_exit b ∙
      elim (variable_or_constant globals caller callee f g c b) [
        | inl v ↦ absurd (n v)
        | inr k ↦ all_member (λ c. point_of exit c ≡ point_of before c) (constants_of callee) c k h
      ]
  | inr k ↦ joined_back (length globals) exit before c k.0 r.in_exit k.1
]

back_reads : (globals : List VarInfo) (caller callee : Columns) (helpers : ℕ) (rows : List LinearRow) (targets : List ℕ) (exit before after : List ℤ) →
    IsFrame globals caller → IsFrame globals callee → BackIsActed caller callee helpers targets →
    BackLeads caller callee helpers rows targets exit before after → BackReads caller callee helpers rows targets exit before after
back_reads globals caller callee helpers rows targets exit before after f g act h =
    let r = returning globals caller callee exit before f g h.at_exit h.at_call in
    let n : ℕ = length globals in
    let base : List ℤ = take n exit ++ drop n before in
    let news : List ℤ = picked exit (result_columns callee) in
    let e : after ≡ put_all base targets news = h.returned ∙ ap (λ (k : ℕ). put_all (take k exit ++ drop k before) targets news) r.count in
    let long : length base ≡ length caller = joined_length n exit before r.in_exit r.in_before ∙ r.before_long in
    let constants = (maps_equal (point_of exit) (point_of before) (constants_of callee)).0 h.constants in
    record {
      at_exit = h.at_exit;
      at_call = h.at_call;
      at_end = h.at_end;
      constants = constants;
      olds = (maps_equal (λ o. point_of exit o.0) (λ o. point_of before o.1) (olds_of callee)).0
          (sym (map_map (λ (o : ℕ × ℕ). o.0) (point_of exit) (olds_of callee)) ∙ h.olds ∙ map_map (λ (o : ℕ × ℕ). o.1) (point_of before) (olds_of callee));
      rows_hold = h.rows_hold;
      globals = all_from_members (λ c. (Member targets c → ⊥) → point_of after c ≡ point_of exit c) (variables_of caller)
          (λ c m k. ap (λ (l : List ℤ). point_of l c) e ∙ put_all_other base targets news c k ∙
          joined_front n exit before c r.in_exit (variable_below globals caller f c m));
      results = subst (λ (l : List ℤ). AllByRecursion (λ p. point_of l p.0 ≡ point_of exit p.1) (taken targets (result_columns callee))) (sym e)
          (put_taken base exit targets (result_columns callee) act.distinct (targets_within caller base targets long act.may_target));
      others = λ c v k. ap (λ (l : List ℤ). point_of l c) e ∙ put_all_other base targets news c k ∙
          not_written globals caller callee exit before f g r constants c v;
    }

reads_back : (globals : List VarInfo) (caller callee : Columns) (helpers : ℕ) (rows : List LinearRow) (targets : List ℕ) (exit before after : List ℤ) →
    IsFrame globals caller → IsFrame globals callee → BackIsActed caller callee helpers targets →
    BackReads caller callee helpers rows targets exit before after → BackLeads caller callee helpers rows targets exit before after
reads_back globals caller callee helpers rows targets exit before after f g act h =
    let r = returning globals caller callee exit before f g h.at_exit h.at_call in
    let n : ℕ = length globals in
    let base : List ℤ = take n exit ++ drop n before in
    let long : length base ≡ length after = joined_length n exit before r.in_exit r.in_before ∙ r.before_long ∙ sym (state_length caller after h.at_end) in
    let same : (c : ℕ) → (Member targets c → ⊥) → point_of after c ≡ point_of base c =
    λ c k. elim (member_or_not (variables_of caller) c) [
      | inl v ↦
          all_member (λ c. (Member targets c → ⊥) → point_of after c ≡ point_of exit c) (variables_of caller) c v h.globals k ∙
          sym (joined_front n exit before c r.in_exit (variable_below globals caller f c v))
      | inr v ↦ h.others c v k ∙ sym (not_written globals caller callee exit before f g r h.constants c v)
    ] in
    record {
      at_exit = h.at_exit;
      at_call = h.at_call;
      at_end = h.at_end;
      constants = (maps_equal (point_of exit) (point_of before) (constants_of callee)).1 h.constants;
      olds = map_map (λ (o : ℕ × ℕ). o.0) (point_of exit) (olds_of callee) ∙
          (maps_equal (λ o. point_of exit o.0) (λ o. point_of before o.1) (olds_of callee)).1 h.olds ∙
          sym (map_map (λ (o : ℕ × ℕ). o.1) (point_of before) (olds_of callee));
      rows_hold = h.rows_hold;
      returned = put_picked base after targets long same ∙
          put_results caller callee base after exit targets (result_columns callee) act.take h.results ∙
          ap (λ (k : ℕ). put_all (take k exit ++ drop k before) targets (picked exit (result_columns callee))) (sym r.count);
    }

pub back_read : (globals : List VarInfo) (caller callee : Columns) (helpers : ℕ) (rows : List LinearRow) (targets : List ℕ) (exit before after : List ℤ) →
    IsFrame globals caller → IsFrame globals callee → BackIsActed caller callee helpers targets →
    BackLeads caller callee helpers rows targets exit before after ↔ BackReads caller callee helpers rows targets exit before after
back_read globals caller callee helpers rows targets exit before after f g act = (
  back_reads globals caller callee helpers rows targets exit before after f g act,
  reads_back globals caller callee helpers rows targets exit before after f g act,
)
