-- Each kind of step keeps the rule.
use Rattle.std.proofs.Common.{◌≡◌, ℕ, zero, suc, ◌+◌, ◌*◌, ◌%◌, ◌^◌, ◌<◌, ◌≤◌, ◌==◌, List, [], ◌∷◌, ◌++◌, length, slice_index, slice_set, sym, ap, ◌∙◌, subst, refl, Option, None, Some, arith, length-append}
use Rattle.std.proofs.lemmas.Nat.{mod-mul-add}
use mathlib.Core.Option as maybe
use lib.ListN.{get_elem?}
use prog.Atomic.{either}
use Rattle.nwa_base.specs.Automata.{Automaton}
use Rattle.race_core.specs.declared.ends.End.{End}
use Rattle.race_core.specs.declared.events.Entry.{Entry}
use Rattle.race_core.specs.Ends.{kind_in}
use Rattle.race_core.specs.Races.{Race}
use Rattle.atomic_table.specs.Table.{State, Me, Step, Act, keeps, takes, gives, Valid, homes_after, carried_after, Allows, Splits, Joins}
use Rattle.atomic_table.proofs.Lists.{set_again}
use Rattle.version_cell.specs.declared.board.Sight.{Sight}
use Rattle.version_cell.specs.Counts.{times, once_below, count}
use Rattle.version_cell.specs.Views.{nobody, held_of, holding, with_entry, informed, with_end, lessened, part_of, both_of}
use Rattle.version_cell.specs.Ties.Rule.{Views, IsAt, Slot, RuleIsKept}
use Rattle.version_cell.specs.Ties.Plays.{IsIdle, IsAllOwn, GoesOn, Holds, Grows, Closes, won, bumped, released, finished, looked}
use Rattle.atomic_table.specs.Seated.{TableId}
use Rattle.version_cell.specs.Passes.{known, IsClosed}
use Rattle.version_cell.proofs.Sums.{total_one, once_most, own_more, count_one, count_none, some_is}
use Rattle.version_cell.proofs.Lives.{live_holding, live_informed, live_entry, live_end, live_longer, live_ended}
use Rattle.version_cell.proofs.Seats.{live_of, views_set, other_is_free, turn_is_held, no_finish, views_split, views_join, whole_only}

same_end : (e f : Option End) → count f ≡ count e → ((x : End) → f ≡ Some x → e ≡ Some x) → e ≡ f
same_end e None n h = count_none e (sym n)
same_end e (Some x) n h = h x refl

mod_small : (n m : ℕ) → m ≡ n + 1 → m < 2 ^ 64 → (n + 1) % 2 ^ 64 ≡ m
mod_small n m e small =
    let same : n + 1 ≡ 0 * 2 ^ 64 + m = omega (arith, e) in
    ap (λ (x : ℕ). x % 2 ^ 64) same ∙ mod-mul-add 0 (2 ^ 64) m small

module _ {E : Type 0} (program : Automaton) (limit all : ℕ) where
  -- what a step owes, with the words and the homes apart
  abbrev Goes : Me (Option (Race E)) (Sight E) → ℕ → (ℕ → ℕ) → (ℕ → Me (Option (Race E)) (Sight E) → Type 0) → ℕ →
      List ℕ → List (maybe.Option (Option (Race E))) → List (Sight E) → Type 0
  Goes m i f then id ws hs vs =
      (w : Sight E) × (a : Act (Option (Race E))) × Valid hs m.1 a
      × RuleIsKept program limit all (record { words = slice_set ws i (f (slice_index ws i)); homes = homes_after hs m.1 a; views = slice_set vs id w })
      × then (slice_index ws i) (w, carried_after m.1 a)

  allows : (slots id : ℕ) (m : Me (Option (Race E)) (Sight E)) (i : ℕ) (f : ℕ → ℕ) (then : ℕ → Me (Option (Race E)) (Sight E) → Type 0) →
      ((turn : ℕ) (h : List (Entry E)) (e : Option End) (hs : List (maybe.Option (Option (Race E)))) (vs : List (Sight E)) →
      Views program limit all h e turn vs → Slot program limit all turn h e hs → get_elem? vs id ≡ maybe.some m.0 →
      Goes m i f then id (turn ∷ length h ∷ []) hs vs) →
      Allows (RuleIsKept program limit all) slots id m i f then
  allows slots id m i f then go s k len at fits =
      let P : List ℕ → Type 0 = λ ws. Goes m i f then id ws s.homes s.views in
      subst P (sym k.words) (go k.turn k.history k.end s.homes s.views k.views k.slot at)

  -- a view with all shares is the only live one
  all_own : (turn : ℕ) (h : List (Entry E)) (e : Option End) (id : ℕ) (v : Sight E) (vs : List (Sight E)) (c : Race E) →
      Views program limit all h e turn vs → get_elem? vs id ≡ maybe.some v → 0 < v.shares → IsAt program limit all h e c →
      v.shares ≡ v.total → IsAllOwn v c
  all_own turn h e id v vs c k at some is whole =
      let l = live_of program limit all h e turn id v vs k at some in
      let full = whole ∙ l.total_is in
      let ends = whole_only program limit all (λ (u : Sight E). count u.finish) refl h e turn id v vs k at full in
      let owns = λ (p : ℕ). whole_only program limit all (λ (u : Sight E). times p u.own) refl h e turn id v vs k at full in
      record {
        places = λ p. sym (owns p) ∙ (k.own p ∙ ap (λ (x : List (Entry E)). once_below p (length x)) (sym is.history_is));
        end = is.end_is ∙ same_end e v.finish (sym ends ∙ k.ends) l.finish;
      }

  goes_on : (turn : ℕ) (h : List (Entry E)) (e : Option End) (id : ℕ) (v : Sight E) (vs : List (Sight E)) (c : Race E) →
      Views program limit all h e turn vs → get_elem? vs id ≡ maybe.some v → 0 < v.shares → IsAt program limit all h e c → GoesOn v c
  goes_on turn h e id v vs c k at some is =
      let l = live_of program limit all h e turn id v vs k at some in
      record {
        program = is.program_is ∙ sym l.program_is;
        limit = is.limit_is ∙ sym l.limit_is;
        seen = (l.seen.0, is.history_is ∙ l.seen.1);
        ended = λ q r. let d = l.ended q r in (ap kind_in is.end_is ∙ d.0, d.1 ∙ sym is.history_is);
        whole = all_own turn h e id v vs c k at some is;
      }

  won_turn : (st : Step (Option (Race E))) (id : ℕ) (v : Sight E) → 0 < v.shares → v.held ≡ None →
      (turn : ℕ) (h : List (Entry E)) (e : Option End) (hs : List (maybe.Option (Option (Race E)))) (vs : List (Sight E)) →
      Views program limit all h e turn vs → Slot program limit all turn h e hs → get_elem? vs id ≡ maybe.some v →
      Goes (v, []) 0 (λ n. either (n == 0) 1 n) (won st (v, [])) id (turn ∷ length h ∷ []) hs vs
  won_turn st id v some free zero h e hs vs k slot at =
      let c = slot.0 in
      let l = live_of program limit all h e 0 id v vs k at some in
      let none = ap count free in
      let P : List (maybe.Option (Option (Race E))) → Type 0 = λ x. Goes (v, []) 0 (λ n. either (n == 0) 1 n) (won st (v, [])) id (0 ∷ length h ∷ []) x vs in
      subst P (sym slot.1) (
        holding v c,
        takes 0 (Some c),
        refl,
        record {
          history = h;
          end = e;
          turn = 1;
          words = refl;
          views = views_set program limit all h h e e 0 1 id v (holding v c) vs k at some refl
              (live_holding program limit all h e v c l slot.2) (λ j u n there m. m) (λ p. refl) refl (omega (arith, none));
          slot = refl;
        },
        ((λ z. (c, refl, goes_on 0 h e id v vs c k at some slot.2)), (λ n. absurd (n refl))),
      )
  won_turn st id v some free (suc zero) h e hs vs k slot at = (
    v,
    keeps,
    tt,
    record {
      history = h;
      end = e;
      turn = 1;
      words = refl;
      views = let P : List (Sight E) → Type 0 = λ x. Views program limit all h e 1 x in subst P (sym (set_again vs id v at)) k;
      slot = slot;
    },
    ((λ z. absurd (omega (arith, z))), (λ n. refl)),
  )
  won_turn st id v some free (suc (suc n)) h e hs vs k slot at = absurd slot

  pub wins : (st : Step (Option (Race E))) (slots id : ℕ) (m : Me (Option (Race E)) (Sight E)) → IsIdle m →
      Allows (RuleIsKept program limit all) slots id m 0 (λ n. either (n == 0) 1 n) (won st m)
  wins st slots id m idle =
      let P : List (ℕ × Option (Race E)) → Type 0 = λ x. Allows (RuleIsKept program limit all) slots id (m.0, x) 0 (λ n. either (n == 0) 1 n) (won st (m.0, x)) in
      subst P (sym idle.carries)
      (allows slots id (m.0, []) 0 (λ n. either (n == 0) 1 n) (won st (m.0, [])) (won_turn st id m.0 idle.shares idle.free))

  released_turn : (st : Step (Option (Race E))) (id : ℕ) (v : Sight E) (c : Race E) → Holds v c →
      (turn : ℕ) (h : List (Entry E)) (e : Option End) (hs : List (maybe.Option (Option (Race E)))) (vs : List (Sight E)) →
      Views program limit all h e turn vs → Slot program limit all turn h e hs → get_elem? vs id ≡ maybe.some v →
      Goes (v, (0, Some c) ∷ []) 0 (λ n. 0) (λ n. released st (v, (0, Some c) ∷ []) 0) id (turn ∷ length h ∷ []) hs vs
  released_turn st id v c holds zero h e hs vs k slot at =
      absurd (let t = turn_is_held program limit all h e 0 id v (held_of c) vs k at holds.names in omega (arith, t))
  released_turn st id v c holds (suc zero) h e hs vs k slot at =
      let l = live_of program limit all h e 1 id v vs k at holds.shares in
      let d = l.held (held_of c) holds.names in
      let one = count_one v.held (held_of c) holds.names in
      let P : List (maybe.Option (Option (Race E))) → Type 0 = λ x. Goes (v, (0, Some c) ∷ []) 0 (λ n. 0) (λ n. released st (v, (0, Some c) ∷ []) 0) id (1 ∷ length h ∷ []) x vs in
      subst P (sym slot) (
        informed v (Some c),
        gives,
        tt,
        record {
          history = h;
          end = e;
          turn = 0;
          words = refl;
          views = views_set program limit all h h e e 1 0 id v (informed v (Some c)) vs k at holds.shares refl
              (live_informed program limit all h e v c l d.0 d.1) (λ j u n there m. m) (λ p. refl) refl (omega (arith, one));
          slot = (
            c,
            refl,
            record {
              program_is = holds.program ∙ l.program_is;
              limit_is = holds.limit ∙ l.limit_is;
              history_is = d.0;
              end_is = d.1;
            },
          );
        },
        refl,
      )
  released_turn st id v c holds (suc (suc n)) h e hs vs k slot at = absurd slot

  pub releases : (st : Step (Option (Race E))) (slots id : ℕ) (m : Me (Option (Race E)) (Sight E)) (v : Sight E) (c : Race E) →
      m ≡ (v, (0, Some c) ∷ []) → Holds v c →
      Allows (RuleIsKept program limit all) slots id m 0 (λ n. 0) (λ n. released st m 0)
  releases st slots id m v c is holds =
      let P : Me (Option (Race E)) (Sight E) → Type 0 = λ x. Allows (RuleIsKept program limit all) slots id x 0 (λ n. 0) (λ n. released st x 0) in
      subst P (sym is)
      (allows slots id (v, (0, Some c) ∷ []) 0 (λ n. 0) (λ n. released st (v, (0, Some c) ∷ []) 0) (released_turn st id v c holds))

  finished_turn : (st : Step (Option (Race E))) (id : ℕ) (v : Sight E) (c : Race E) → Closes v c →
      (turn : ℕ) (h : List (Entry E)) (e : Option End) (hs : List (maybe.Option (Option (Race E)))) (vs : List (Sight E)) →
      Views program limit all h e turn vs → Slot program limit all turn h e hs → get_elem? vs id ≡ maybe.some v →
      Goes (v, (0, Some c) ∷ []) 0 (λ n. 0) (λ n. finished st (v, (0, Some c) ∷ []) 0) id (turn ∷ length h ∷ []) hs vs
  finished_turn st id v c closes zero h e hs vs k slot at =
      absurd (let t = turn_is_held program limit all h e 0 id v (held_of closes.before) vs k at closes.names in omega (arith, t))
  finished_turn st id v c closes (suc zero) h e hs vs k slot at =
      let l = live_of program limit all h e 1 id v vs k at closes.shares in
      let d = l.held (held_of closes.before) closes.names in
      let same : c.history ≡ h = closes.same ∙ d.0 in
      let none : e ≡ None = sym d.1 ∙ closes.was_open in
      let one = count_one v.held (held_of closes.before) closes.names in
      let mine = no_finish program limit all h e 1 id v vs k at none in
      let unset : count e ≡ 0 = ap count none in
      let P : List (maybe.Option (Option (Race E))) → Type 0 = λ x. Goes (v, (0, Some c) ∷ []) 0 (λ n. 0) (λ n. finished st (v, (0, Some c) ∷ []) 0) id (1 ∷ length h ∷ []) x vs in
      subst P (sym slot) (
        with_end v (Some c),
        gives,
        tt,
        record {
          history = h;
          end = c.end;
          turn = 0;
          words = refl;
          views = views_set program limit all h h e c.end 1 0 id v (with_end v (Some c)) vs k at closes.shares refl
              (live_end program limit all h e v c l same)
              (λ j u n there m. live_ended program limit all h e c.end u m none
              (other_is_free program limit all h e 1 id j v u (held_of closes.before) vs k (omega arith) at closes.names n there))
              (λ p. refl) (omega (arith, mine, unset)) (omega (arith, one));
          slot = (
            c,
            refl,
            record {
              program_is = closes.program ∙ l.program_is;
              limit_is = closes.limit ∙ l.limit_is;
              history_is = same;
              end_is = refl;
            },
          );
        },
        refl,
      )
  finished_turn st id v c closes (suc (suc n)) h e hs vs k slot at = absurd slot

  pub finishes : (st : Step (Option (Race E))) (slots id : ℕ) (m : Me (Option (Race E)) (Sight E)) (v : Sight E) (c : Race E) →
      m ≡ (v, (0, Some c) ∷ []) → Closes v c →
      Allows (RuleIsKept program limit all) slots id m 0 (λ n. 0) (λ n. finished st m 0)
  finishes st slots id m v c is closes =
      let P : Me (Option (Race E)) (Sight E) → Type 0 = λ x. Allows (RuleIsKept program limit all) slots id x 0 (λ n. 0) (λ n. finished st x 0) in
      subst P (sym is)
      (allows slots id (v, (0, Some c) ∷ []) 0 (λ n. 0) (λ n. finished st (v, (0, Some c) ∷ []) 0) (finished_turn st id v c closes))

  bumped_turn : (st : Step (Option (Race E))) (id : ℕ) (v : Sight E) (c : Race E) → Grows v c → length c.history < 2 ^ 64 →
      (turn : ℕ) (h : List (Entry E)) (e : Option End) (hs : List (maybe.Option (Option (Race E)))) (vs : List (Sight E)) →
      Views program limit all h e turn vs → Slot program limit all turn h e hs → get_elem? vs id ≡ maybe.some v →
      Goes (v, (0, Some c) ∷ []) 1 (λ n. (n + 1) % 2 ^ 64) (bumped st (v, (0, Some c) ∷ [])) id (turn ∷ length h ∷ []) hs vs
  bumped_turn st id v c grows small zero h e hs vs k slot at =
      absurd (let t = turn_is_held program limit all h e 0 id v (held_of grows.before) vs k at grows.names in omega (arith, t))
  bumped_turn st id v c grows small (suc zero) h e hs vs k slot at =
      let l = live_of program limit all h e 1 id v vs k at grows.shares in
      let d = l.held (held_of grows.before) grows.names in
      let longer : c.history ≡ h ++ grows.entry ∷ [] = grows.longer ∙ ap (λ (x : List (Entry E)). x ++ grows.entry ∷ []) d.0 in
      let none : e ≡ None = sym d.1 ∙ grows.was_open in
      let size : length c.history ≡ length h + 1 = ap length longer ∙ length-append h (grows.entry ∷ []) in
      let one = count_one v.held (held_of grows.before) grows.names in
      let word : (length h + 1) % 2 ^ 64 ≡ length c.history = mod_small (length h) (length c.history) size small in (
        with_entry v (Some c) (length h),
        keeps,
        tt,
        record {
          history = c.history;
          end = e;
          turn = 1;
          words = ap (λ (n : ℕ). 1 ∷ n ∷ []) word;
          views = views_set program limit all h c.history e e 1 1 id v (with_entry v (Some c) (length h)) vs k at grows.shares refl
              (live_entry program limit all h e v c grows.entry l none longer grows.is_open)
              (λ j u n there m. live_longer program limit all h c.history e u grows.entry m none
              (other_is_free program limit all h e 1 id j v u (held_of grows.before) vs k (omega arith) at grows.names n there) longer)
              (λ p. own_more p (length h) (length c.history) v.own size) refl (omega (arith, one));
          slot = slot;
        },
        (refl, (λ c' q. let s = ap (λ (x : Race E). length x.history) (some_is c c' q) in sym size ∙ s)),
      )
  bumped_turn st id v c grows small (suc (suc n)) h e hs vs k slot at = absurd slot

  pub bumps : (st : Step (Option (Race E))) (slots id : ℕ) (m : Me (Option (Race E)) (Sight E)) (v : Sight E) (c : Race E) →
      m ≡ (v, (0, Some c) ∷ []) → Grows v c → length c.history < 2 ^ 64 →
      Allows (RuleIsKept program limit all) slots id m 1 (λ n. (n + 1) % 2 ^ 64) (bumped st m)
  bumps st slots id m v c is grows small =
      let P : Me (Option (Race E)) (Sight E) → Type 0 = λ x. Allows (RuleIsKept program limit all) slots id x 1 (λ n. (n + 1) % 2 ^ 64) (bumped st x) in
      subst P (sym is)
      (allows slots id (v, (0, Some c) ∷ []) 1 (λ n. (n + 1) % 2 ^ 64) (bumped st (v, (0, Some c) ∷ [])) (bumped_turn st id v c grows small))

  -- each place is one of the seat's own once at most
  once_there : (turn : ℕ) (h : List (Entry E)) (e : Option End) (id : ℕ) (v : Sight E) (vs : List (Sight E)) →
      Views program limit all h e turn vs → get_elem? vs id ≡ maybe.some v → (p : ℕ) → times p v.own ≤ 1
  once_there turn h e id v vs k at p =
      let a = total_one (λ (u : Sight E). times p u.own) vs id v at in
      let b = k.own p in
      let d = once_most p (length h) in omega (arith, a, b, d)

  looked_turn : (st : Step (Option (Race E))) (id : ℕ) (m : Me (Option (Race E)) (Sight E)) → 0 < m.0.shares →
      (turn : ℕ) (h : List (Entry E)) (e : Option End) (hs : List (maybe.Option (Option (Race E)))) (vs : List (Sight E)) →
      Views program limit all h e turn vs → Slot program limit all turn h e hs → get_elem? vs id ≡ maybe.some m.0 →
      Goes m 0 (λ n. n) (looked st m) id (turn ∷ length h ∷ []) hs vs
  looked_turn st id m some turn h e hs vs k slot at =
      let l = live_of program limit all h e turn id m.0 vs k at some in (
        m.0,
        keeps,
        tt,
        record {
          history = h;
          end = e;
          turn = turn;
          words = refl;
          views = let P : List (Sight E) → Type 0 = λ x. Views program limit all h e turn x in subst P (sym (set_again vs id m.0 at)) k;
          slot = slot;
        },
        (refl, l.told, l.told_ended, l.below, once_there turn h e id m.0 vs k at),
      )

  pub looks : (st : Step (Option (Race E))) (slots id : ℕ) (m : Me (Option (Race E)) (Sight E)) → 0 < m.0.shares →
      Allows (RuleIsKept program limit all) slots id m 0 (λ n. n) (looked st m)
  looks st slots id m some = allows slots id m 0 (λ n. n) (looked st m) (looked_turn st id m some)

  pub splits : (id : ℕ) (v : Sight E) → 1 < v.shares → v.held ≡ None →
      Splits (RuleIsKept program limit all) id v (lessened v) (part_of v)
  splits id v some free s k at =
      record {
        history = k.history;
        end = k.end;
        turn = k.turn;
        words = k.words;
        views = views_split program limit all k.history k.end k.turn id v s.views k.views at some free;
        slot = k.slot;
      }

  pub joins : (id other : ℕ) (v w : Sight E) → 0 < v.shares → 0 < w.shares → v.held ≡ None → w.held ≡ None →
      Joins (RuleIsKept program limit all) id v other w (both_of v w) nobody
  joins id other v w some some' free free' s k at differ there =
      record {
        history = k.history;
        end = k.end;
        turn = k.turn;
        words = k.words;
        views = views_join program limit all k.history k.end k.turn id other v w s.views k.views at differ there some some' free free';
        slot = k.slot;
      }

  closed_turn : (z : TableId) (id : ℕ) (v : Sight E) → 0 < v.shares → v.held ≡ None → v.shares ≡ v.total →
      (turn : ℕ) (h : List (Entry E)) (e : Option End) (hs : List (maybe.Option (Option (Race E)))) (vs : List (Sight E)) →
      Views program limit all h e turn vs → Slot program limit all turn h e hs → get_elem? vs id ≡ maybe.some v →
      (c : Race E) × (get_elem? hs 0 ≡ maybe.some (maybe.some (Some c))) × IsClosed (known z v) c
  closed_turn z id v some free whole (suc n) h e hs vs k slot at =
      let l = live_of program limit all h e (suc n) id v vs k at some in
      let all_held = whole_only program limit all (λ (u : Sight E). count u.held) refl h e (suc n) id v vs k at (whole ∙ l.total_is) in
      let a = k.holders in let b = ap count free in absurd (omega (arith, all_held, a, b))
  closed_turn z id v some free whole zero h e hs vs k slot at =
      let c = slot.0 in
      let g = goes_on 0 h e id v vs c k at some slot.2 in
      let o = g.whole whole in (
        c,
        ap (λ (x : List (maybe.Option (Option (Race E)))). get_elem? x 0) slot.1,
        record {
          program = g.program;
          limit = g.limit;
          seen = g.seen;
          own = o.places;
          end = o.end;
          ended = λ q r. let d = g.ended q r in (d.0, sym d.1);
        },
      )

  pub closes : (z : TableId) (s : State (Option (Race E)) (Sight E)) (id : ℕ) (v : Sight E) → RuleIsKept program limit all s →
      get_elem? s.views id ≡ maybe.some v → 0 < v.shares → v.held ≡ None → v.shares ≡ v.total →
      (c : Race E) × (get_elem? s.homes 0 ≡ maybe.some (maybe.some (Some c))) × IsClosed (known z v) c
  closes z s id v k at some free whole =
      closed_turn z id v some free whole k.turn k.history k.end s.homes s.views k.views k.slot at
