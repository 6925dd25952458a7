-- What a pass keeps when it has seen more.
use Rattle.std.proofs.Common.{◌≡◌, ℕ, zero, suc, ◌+◌, ◌<◌, ◌≤◌, Bool, true, false, nat_eq, nat_le, if◌then◌else◌, List, [], ◌∷◌, ◌++◌, length, sym, ap, ◌∙◌, subst, refl, Option, None, Some, arith, ⊎_elim, length-append}
use Rattle.nwa_base.specs.declared.letters.Letter.{Letter}
use Rattle.nwa_base.specs.Automata.{Automaton}
use Rattle.race_core.specs.declared.ends.End.{End}
use Rattle.race_core.specs.declared.events.Entry.{Entry}
use Rattle.race_core.specs.declared.events.Why.{Why}
use Rattle.race_core.specs.declared.events.Why.TheVariants.{Ended, Full, Stale}
use Rattle.race_core.specs.Ends.{kind_of, kind_in}
use Rattle.race_core.specs.Histories.{IsFair, IsLegal, IsNext, Keeps}
use Rattle.race_core.specs.Races.{Race}
use Rattle.race_core.specs.Steps.{staleness, publish_refusal, finish_refusal}
use Rattle.version_cell.specs.declared.board.Sight.{Sight}
use Rattle.version_cell.specs.Counts.{times, once_below, Begins}
use Rattle.version_cell.specs.Ties.Plays.{IsIdle, GoesOn, Grows, Closes}
use Rattle.version_cell.specs.Views.{holding, informed, with_entry, with_end}
use Rattle.version_cell.specs.Passes.{Known, known, IsTable, IsValid, WasAt, shown, owning, ending, Names}
use Rattle.version_cell.proofs.Sums.{times_last, times_once, some_is, none_some}
use Rattle.version_cell.proofs.Beginnings.{begins_length, begins_take}
use Rattle.atomic_table.specs.Seated.{TableId}
use Rattle.atomic_table.specs.Table.{Me}

module _ {E : Type 0} where
  -- the state that was won is what the cell had at that moment
  pub was_at : (z : TableId) (v : Sight E) (c : Race E) → GoesOn v c → WasAt (known z v) c.history c.end
  was_at z v c g = (g.seen, g.ended)

  stale_by : (p : Known E) (version : ℕ) (why : Why) → length p.seen ≡ version → (b : Bool) →
      (if b then None else Some (Stale version)) ≡ Some why → Names p why
  stale_by p version why n true r = absurd (none_some why r)
  stale_by p version why n false r = let P : Why → Type 0 = λ x. Names p x in subst P (some_is (Stale version) why r) n

  stale_names : (p : Known E) (version base : ℕ) (why : Why) → length p.seen ≡ version →
      staleness version base ≡ Some why → Names p why
  stale_names p version base why n q = stale_by p version why n (nat_eq base version) q

  full_by : (p : Known E) (h : List (Entry E)) (limit base : ℕ) (why : Why) → p.limit ≡ limit → length h ≤ limit →
      (b : Bool) → (b ≡ true → limit ≤ length h) →
      (if b then Some (Full limit) else staleness (length h) base) ≡ Some why → Names (shown p h None) why
  full_by p h limit base why same room true full r =
      let P : Why → Type 0 = λ y. Names (shown p h None) y in
      let le = full refl in
      subst P (some_is (Full limit) why r) (sym same, omega (arith, le, room))
  full_by p h limit base why same room false full r = stale_names (shown p h None) (length h) base why refl r

  -- a refusal of a publication names what the pass has then seen
  pub publish_names : (p : Known E) (h : List (Entry E)) (e : Option End) (limit base : ℕ) (why : Why) →
      p.limit ≡ limit → length h ≤ limit → publish_refusal e (length h) limit base ≡ Some why → Names (shown p h e) why
  publish_names p h (Some x) limit base why same room q =
      let P : Why → Type 0 = λ y. Names (shown p h (Some x)) y in subst P (some_is (Ended (kind_of x)) why q) refl
  publish_names p h None limit base why same room q =
      full_by p h limit base why same room (nat_le limit (length h)) (λ t. grind arith) q

  pub finish_names : (p : Known E) (h : List (Entry E)) (e : Option End) (base : ℕ) (why : Why) →
      finish_refusal e (length h) base ≡ Some why → Names (shown p h e) why
  finish_names p h (Some x) base why q =
      let P : Why → Type 0 = λ y. Names (shown p h (Some x)) y in subst P (some_is (Ended (kind_of x)) why q) refl
  finish_names p h None base why q = stale_names (shown p h None) (length h) base why refl q

module _ {E : Type 0} (automaton : E → Automaton) (feasible : E → List Letter → Type 0) where
  still_below : (p : Known E) (h : List (Entry E)) → IsValid automaton feasible p → Begins p.seen h →
      (place : ℕ) → 0 < times place p.own → place < length h
  still_below p h v s place there = let a = v.below place there in let b = begins_length p.seen h s in omega (arith, a, b)

  pub valid_shown : (p : Known E) (h : List (Entry E)) (e : Option End) → IsValid automaton feasible p → Begins p.seen h →
      IsLegal automaton feasible p.program h → IsValid automaton feasible (shown p h e)
  valid_shown p h e v s l = record { shares = v.shares; legal = l; below = still_below p h v s; once = v.once }

  pub valid_ending : (p : Known E) (h : List (Entry E)) (end : End) → IsValid automaton feasible p → Begins p.seen h →
      IsLegal automaton feasible p.program h → IsValid automaton feasible (ending p h end)
  valid_ending p h end v s l = record { shares = v.shares; legal = l; below = still_below p h v s; once = v.once }

  pub valid_owning : (p : Known E) (h : List (Entry E)) (entry : Entry E) (place : ℕ) → IsValid automaton feasible p → Begins p.seen h →
      length h ≡ place → IsLegal automaton feasible p.program (h ++ entry ∷ []) → IsValid automaton feasible (owning p h entry place)
  valid_owning p h entry place v s at l =
      let n = length-append h (entry ∷ []) in
      record {
        shares = v.shares;
        legal = l;
        below = λ q there.
            ⊎_elim (λ o. let a = still_below p h v s q o in omega (arith, a, n)) (λ o. omega (arith, o, at, n)) (times_last q place p.own there);
        once = λ q. times_once q place p.own (v.once q) (λ there. let a = still_below p h v s place there in omega (arith, a, at));
      }

module _ {E : Type 0} where
  -- the seat's view after the state was put back as it was, with an entry, or with an end
  pub shown_is : (z z' : TableId) (v : Sight E) (m : Me (Option (Race E)) (Sight E)) (c : Race E) → z' ≡ z →
      m ≡ (informed (holding v c) (Some c), []) → known z' m.0 ≡ shown (known z v) c.history c.end
  shown_is z z' v m c same is i = known (same i) (is i).0

  pub owning_is : (z z' : TableId) (v : Sight E) (m : Me (Option (Race E)) (Sight E)) (b c : Race E) (entry : Entry E) (n base : ℕ) →
      z' ≡ z → m ≡ (informed (with_entry (holding v b) (Some c) n) (Some c), []) → c.history ≡ b.history ++ entry ∷ [] →
      c.end ≡ None → n ≡ base → known z' m.0 ≡ owning (known z v) b.history entry base
  owning_is z z' v m b c entry n base same is longer open_ at =
      let e : known z' m.0 ≡ known z (informed (with_entry (holding v b) (Some c) n) (Some c)) = λ i. known (same i) (is i).0 in
      e ∙ (λ i. record (known z v) { seen = longer i; ended = kind_in (open_ i); own = v.own ++ at i ∷ [] })

  pub ending_is : (z z' : TableId) (v : Sight E) (m : Me (Option (Race E)) (Sight E)) (b c : Race E) (end : End) →
      z' ≡ z → m ≡ (with_end (holding v b) (Some c), []) → c.history ≡ b.history → c.end ≡ Some end →
      known z' m.0 ≡ ending (known z v) b.history end
  ending_is z z' v m b c end same is longer set_ =
      let e : known z' m.0 ≡ known z (with_end (holding v b) (Some c)) = λ i. known (same i) (is i).0 in
      e ∙ (λ i. record (known z v) { seen = longer i; ended = kind_in (set_ i); finish = set_ i })

module _ {E : Type 0} (automaton : E → Automaton) (feasible : E → List Letter → Type 0) where
  -- what a pass keeps, from its seat's last view
  pub keeps_pass : (z z' : TableId) (w : Sight E) (m : Me (Option (Race E)) (Sight E)) → z' ≡ z → m ≡ (w, []) → IsTable z →
      w.held ≡ None → w.limit ≤ 100000 → IsValid automaton feasible (known z w) →
      IsTable z' × IsIdle m × (m.0.limit ≤ 100000) × IsValid automaton feasible (known z' m.0)
  keeps_pass z z' w m same is table free small valid =
      let P : TableId → Type 0 = λ y. IsTable y × IsIdle m × (m.0.limit ≤ 100000) × IsValid automaton feasible (known y m.0) in
      let Q : Me (Option (Race E)) (Sight E) → Type 0 = λ x. IsTable z × IsIdle x × (x.0.limit ≤ 100000) × IsValid automaton feasible (known z x.0) in
      subst P (sym same)
      (subst Q (sym is) (table, (record { shares = valid.shares; free = free; carries = refl }), small, valid))

publish_taken : (e : Option End) (n limit base : ℕ) → publish_refusal e n limit base ≡ None → (e ≡ None) × (base ≡ n)
publish_taken None n limit base q = grind arith
publish_taken (Some x) n limit base q = absurd (none_some (Ended (kind_of x)) (sym q))

finish_taken : (e : Option End) (n base : ℕ) → finish_refusal e n base ≡ None → e ≡ None
finish_taken None n base q = refl
finish_taken (Some x) n base q = absurd (none_some (Ended (kind_of x)) (sym q))

taken_at : (n limit base : ℕ) → base ≡ n → base < limit → publish_refusal None n limit base ≡ None
taken_at n limit base at room = grind arith

pub publish_open : (e : Option End) (n limit base : ℕ) → publish_refusal e n limit base ≡ None → e ≡ None
publish_open e n limit base q = (publish_taken e n limit base q).0

pub publish_base : (e : Option End) (n limit base : ℕ) → publish_refusal e n limit base ≡ None → base ≡ n
publish_base e n limit base q = (publish_taken e n limit base q).1

module _ {E : Type 0} where
  pub grows_of : (v : Sight E) (b c : Race E) (m : Me (Option (Race E)) (Sight E)) (l : List (ℕ × Option (Race E))) (entry : Entry E) (kept : Automaton) →
      m ≡ (holding v b, l) → 0 < v.shares → GoesOn v b → b.end ≡ None → c ≡ record b { history = b.history ++ entry ∷ []; kept = kept } →
      Grows m.0 c
  grows_of v b c m l entry kept is some g open_ new =
      let P : Me (Option (Race E)) (Sight E) → Type 0 = λ x. Grows x.0 c in
      let Q : Race E → Type 0 = λ x. Grows (holding v b) x in
      subst P (sym is)
      (subst Q (sym new)
      (record {
        shares = some;
        program = g.program;
        limit = g.limit;
        before = b;
        entry = entry;
        names = refl;
        longer = refl;
        was_open = open_;
        is_open = open_;
      }))

  pub closes_of : (v : Sight E) (b c : Race E) (m : Me (Option (Race E)) (Sight E)) (l : List (ℕ × Option (Race E))) (end : End) (base : ℕ) →
      m ≡ (holding v b, l) → 0 < v.shares → GoesOn v b → finish_refusal b.end (length b.history) base ≡ None →
      c ≡ record b { end = Some end } → Closes m.0 c
  closes_of v b c m l end base is some g taken new =
      let P : Me (Option (Race E)) (Sight E) → Type 0 = λ x. Closes x.0 c in
      let Q : Race E → Type 0 = λ x. Closes (holding v b) x in
      subst P (sym is)
      (subst Q (sym new)
      (record {
        shares = some;
        program = g.program;
        limit = g.limit;
        before = b;
        end = end;
        names = refl;
        same = refl;
        was_open = finish_taken b.end (length b.history) base taken;
        is_set = refl;
      }))

  -- the moment at which the state was won, said of the pass
  pub moment_of : (z : TableId) (v : Sight E) (p : Known E) (c : Race E) → known z v ≡ p → GoesOn v c → WasAt p c.history c.end
  moment_of z v p c is g = let P : Known E → Type 0 = λ x. WasAt x c.history c.end in subst P is (was_at z v c g)

-- a history of which each place is an own one, and lies below what was seen, was seen whole
all_seen : (own : List ℕ) (n seen : ℕ) → ((p : ℕ) → times p own ≡ once_below p n) → ((p : ℕ) → 0 < times p own → p < seen) → n ≤ seen
all_seen own zero seen all below = omega arith
all_seen own (suc n) seen all below =
    let here : once_below n (suc n) ≡ 1 = grind arith in
    let last = below n (let o = all n in omega (arith, o, here)) in omega (arith, last)

module _ {E : Type 0} (automaton : E → Automaton) (feasible : E → List Letter → Type 0) where
  -- what a whole pass with no end publishes behind all that it has seen, below the limit, is not refused
  pub whole_taken : (z : TableId) (v : Sight E) (p : Known E) (c : Race E) (base : ℕ) → known z v ≡ p → GoesOn v c →
      IsValid automaton feasible (known z v) → p.shares ≡ p.total → p.finish ≡ None → base ≡ length p.seen → base < p.limit →
      publish_refusal c.end (length c.history) c.limit base ≡ None
  whole_taken z v p c base is g valid whole open_ at room =
      let own = g.whole (ap (λ (x : Known E). x.shares) is ∙ (whole ∙ sym (ap (λ (x : Known E). x.total) is))) in
      let end : c.end ≡ None = own.end ∙ (ap (λ (x : Known E). x.finish) is ∙ open_) in
      let limit = g.limit ∙ ap (λ (x : Known E). x.limit) is in
      let seen = ap (λ (x : Known E). length x.seen) is in
      let le = all_seen v.own (length c.history) (length v.seen) own.places valid.below in
      let ge = begins_length v.seen c.history g.seen in
      subst (λ (x : Option End). publish_refusal x (length c.history) c.limit base ≡ None) (sym end)
      (taken_at (length c.history) c.limit base (omega (arith, le, ge, seen, at)) (omega (arith, room, limit)))

module _ {E : Type 0} (automaton : E → Automaton) where
  -- fairness at a base speaks of the first entries alone
  pub fair_along : (program : Automaton) (seen h : List (Entry E)) (base : ℕ) (entry : Entry E) (kept : Automaton) → Begins seen h →
      base ≤ length seen → IsFair automaton program seen base entry kept → IsFair automaton program h base entry kept
  fair_along program seen h base entry kept s le f =
      let e = begins_take seen h base s le in
      let N : List (Entry E) → Type 0 = λ t. IsNext automaton program t entry in
      let K : List (Entry E) → Type 0 = λ t. Keeps automaton program (t ++ entry ∷ []) kept in
      record { next = subst N (sym e) f.next; keeps = subst K (sym e) f.keeps }

  pub fair_won : (z : TableId) (v : Sight E) (p : Known E) (c : Race E) (base : ℕ) (entry : Entry E) (kept : Automaton) → known z v ≡ p →
      GoesOn v c → base ≤ length p.seen → IsFair automaton p.program p.seen base entry kept →
      IsFair automaton c.program c.history base entry kept
  fair_won z v p c base entry kept is g =
      let P : Known E → Type 0 = λ x. base ≤ length x.seen → IsFair automaton x.program x.seen base entry kept → IsFair automaton c.program c.history base entry kept in
      let Q : Automaton → Type 0 = λ x. IsFair automaton x c.history base entry kept in
      subst P is
      (λ le f. subst Q (sym g.program) (fair_along v.program v.seen c.history base entry kept g.seen le f))

  pub keeps_seen : (v : Sight E) (c : Race E) (m : Me (Option (Race E)) (Sight E)) (k : Automaton) → m ≡ (informed (holding v c) (Some c), []) →
      c.program ≡ v.program → k ≡ c.kept → Keeps automaton c.program c.history c.kept → Keeps automaton m.0.program m.0.seen k
  keeps_seen v c m k is program same keeps =
      let P : Me (Option (Race E)) (Sight E) → Type 0 = λ x. Keeps automaton x.0.program x.0.seen k in
      let Q : Automaton → Type 0 = λ x. Keeps automaton x c.history k in
      let K : Automaton → Type 0 = λ x. Keeps automaton c.program c.history x in
      subst P (sym is) (subst Q program (subst K (sym same) keeps))

module _ {E : Type 0} (automaton : E → Automaton) (feasible : E → List Letter → Type 0) where
  pub valid_entry : (z : TableId) (v : Sight E) (b c : Race E) (entry : Entry E) (n : ℕ) → IsValid automaton feasible (known z v) → GoesOn v b →
      c.program ≡ b.program → c.history ≡ b.history ++ entry ∷ [] → n + 1 ≡ length c.history →
      IsLegal automaton feasible c.program c.history →
      IsValid automaton feasible (known z (informed (with_entry (holding v b) (Some c) n) (Some c)))
  valid_entry z v b c entry n valid g program longer at legal =
      let L : Automaton → Type 0 = λ x. IsLegal automaton feasible x c.history in
      let s = begins_length v.seen b.history g.seen in
      let size = ap length longer in
      let more = length-append b.history (entry ∷ []) in
      record {
        shares = valid.shares;
        legal = subst L (program ∙ g.program) legal;
        below = λ q there.
            ⊎_elim (λ o. let a = valid.below q o in omega (arith, a, s, size, more)) (λ o. omega (arith, o, at)) (times_last q n v.own there);
        once = λ q. times_once q n v.own (valid.once q) (λ there. let a = valid.below n there in omega (arith, a, s, size, more, at));
      }
