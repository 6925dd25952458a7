-- Live views after the steps.
use Rattle.std.proofs.Common.{◌≡◌, ℕ, List, [], ◌∷◌, ◌++◌, length, sym, ap, ◌∙◌, refl, Option, None, Some, arith, ⊎_elim, length-append}
use Rattle.nwa_base.specs.Automata.{Automaton}
use Rattle.race_core.specs.declared.ends.End.{End}
use Rattle.race_core.specs.declared.ends.EndKind.{EndKind}
use Rattle.race_core.specs.declared.events.Entry.{Entry}
use Rattle.race_core.specs.Ends.{kind_in}
use Rattle.race_core.specs.Races.{Race}
use Rattle.version_cell.specs.declared.board.Held.{Held}
use Rattle.version_cell.specs.declared.board.Sight.{Sight}
use Rattle.version_cell.specs.Views.{holding, held_of, with_entry, informed, with_end, lessened, part_of}
use Rattle.version_cell.specs.Ties.Rule.{IsLive, IsAt}
use Rattle.version_cell.proofs.Sums.{times_last, none_some, some_is}
use Rattle.version_cell.proofs.Beginnings.{begins_none, begins_same, begins_along, begins_more, begins_length}

-- where no end is set none has a kind
pub no_kind : (end : Option End) (k : EndKind) → end ≡ None → kind_in end ≡ Some k → ⊥
no_kind end k e q = none_some k (ap kind_in (sym e) ∙ q)

module _ {E : Type 0} (program : Automaton) (limit all : ℕ) where
  nothing_told : (v : Sight E) (told : Option EndKind) → told ≡ None → (k : EndKind) → told ≡ Some k →
      (v.told ≡ v.seen) × (v.ended ≡ Some k)
  nothing_told v told e k q = absurd (none_some k (sym e ∙ q))

  pub live_holding : (h : List (Entry E)) (e : Option End) (v : Sight E) (c : Race E) → IsLive program limit all h e v →
      IsAt program limit all h e c → IsLive program limit all h e (holding v c)
  live_holding h e v c l at =
      record {
        program_is = l.program_is;
        limit_is = l.limit_is;
        total_is = l.total_is;
        seen = l.seen;
        ended = l.ended;
        finish = l.finish;
        below = l.below;
        held = λ x q.
            let s : held_of c ≡ x = some_is (held_of c) x q in
            (ap (λ (y : Held E). y.history) (sym s) ∙ at.history_is, ap (λ (y : Held E). y.end) (sym s) ∙ at.end_is);
        told = begins_none v.seen;
        told_ended = λ k q. absurd (none_some k q);
      }

  pub live_informed : (h : List (Entry E)) (e : Option End) (v : Sight E) (c : Race E) → IsLive program limit all h e v →
      c.history ≡ h → c.end ≡ e → IsLive program limit all h e (informed v (Some c))
  live_informed h e v c l hs es =
      record {
        program_is = l.program_is;
        limit_is = l.limit_is;
        total_is = l.total_is;
        seen = begins_same c.history h hs;
        ended = λ k q. (ap kind_in (sym es) ∙ q, hs);
        finish = l.finish;
        below = λ p s.
            let a = l.below p s in let b = begins_length v.seen h l.seen in let n = ap length hs in omega (arith, a, b, n);
        held = λ x q. absurd (none_some x q);
        told = begins_none c.history;
        told_ended = λ k q. absurd (none_some k q);
      }

  pub live_entry : (h : List (Entry E)) (e : Option End) (v : Sight E) (c : Race E) (entry : Entry E) →
      IsLive program limit all h e v → e ≡ None → c.history ≡ h ++ entry ∷ [] → c.end ≡ None →
      IsLive program limit all c.history e (with_entry v (Some c) (length h))
  live_entry h e v c entry l none hs es =
      record {
        program_is = l.program_is;
        limit_is = l.limit_is;
        total_is = l.total_is;
        seen = begins_same c.history c.history refl;
        ended = λ k q. absurd (none_some k q);
        finish = l.finish;
        below = λ p s.
            let n = ap length hs in let m = length-append h (entry ∷ []) in
            let b = begins_length v.seen h l.seen in
            ⊎_elim (λ o. let a = l.below p o in omega (arith, a, b, n, m)) (λ q. omega (arith, q, n, m)) (times_last p (length h) v.own s);
        held = λ x q.
            let s : held_of c ≡ x = some_is (held_of c) x q in
            (ap (λ (y : Held E). y.history) (sym s), ap (λ (y : Held E). y.end) (sym s) ∙ es ∙ sym none);
        told = begins_none c.history;
        told_ended = λ k q. absurd (none_some k q);
      }

  pub live_end : (h : List (Entry E)) (e : Option End) (v : Sight E) (c : Race E) →
      IsLive program limit all h e v → c.history ≡ h → IsLive program limit all h c.end (with_end v (Some c))
  live_end h e v c l hs =
      record {
        program_is = l.program_is;
        limit_is = l.limit_is;
        total_is = l.total_is;
        seen = begins_same c.history h hs;
        ended = λ k q. (q, hs);
        finish = λ x q. q;
        below = λ p s.
            let a = l.below p s in let b = begins_length v.seen h l.seen in let n = ap length hs in omega (arith, a, b, n);
        held = λ x q. absurd (none_some x q);
        told = begins_none c.history;
        told_ended = λ k q. absurd (none_some k q);
      }

  -- another view, which holds nothing, when the history grows
  pub live_longer : (h h' : List (Entry E)) (e : Option End) (u : Sight E) (entry : Entry E) → IsLive program limit all h e u →
      e ≡ None → u.held ≡ None → h' ≡ h ++ entry ∷ [] → IsLive program limit all h' e u
  live_longer h h' e u entry l none free hs =
      record {
        program_is = l.program_is;
        limit_is = l.limit_is;
        total_is = l.total_is;
        seen = begins_along u.seen (h ++ entry ∷ []) h' (begins_more u.seen h entry l.seen) (sym hs);
        ended = λ k q. absurd (no_kind e k none (l.ended k q).0);
        finish = l.finish;
        below = l.below;
        held = λ x q. absurd (none_some x (sym free ∙ q));
        told = l.told;
        told_ended = l.told_ended;
      }

  -- another view, which holds nothing, when the end is set
  pub live_ended : (h : List (Entry E)) (e e' : Option End) (u : Sight E) → IsLive program limit all h e u →
      e ≡ None → u.held ≡ None → IsLive program limit all h e' u
  live_ended h e e' u l none free =
      record {
        program_is = l.program_is;
        limit_is = l.limit_is;
        total_is = l.total_is;
        seen = l.seen;
        ended = λ k q. absurd (no_kind e k none (l.ended k q).0);
        finish = λ x q. absurd (none_some x (sym none ∙ l.finish x q));
        below = l.below;
        held = λ x q. absurd (none_some x (sym free ∙ q));
        told = l.told;
        told_ended = l.told_ended;
      }

  pub live_lessened : (h : List (Entry E)) (e : Option End) (v : Sight E) → IsLive program limit all h e v →
      IsLive program limit all h e (lessened v)
  live_lessened h e v l =
      record {
        program_is = l.program_is;
        limit_is = l.limit_is;
        total_is = l.total_is;
        seen = l.seen;
        ended = l.ended;
        finish = l.finish;
        below = l.below;
        held = l.held;
        told = l.told;
        told_ended = l.told_ended;
      }

  pub live_part : (h : List (Entry E)) (e : Option End) (v : Sight E) → IsLive program limit all h e v →
      IsLive program limit all h e (part_of v)
  live_part h e v l =
      record {
        program_is = l.program_is;
        limit_is = l.limit_is;
        total_is = l.total_is;
        seen = l.seen;
        ended = l.ended;
        finish = λ x q. absurd (none_some x q);
        below = λ p s. absurd (omega (arith, s));
        held = λ x q. absurd (none_some x q);
        told = begins_none v.seen;
        told_ended = λ k q. absurd (none_some k q);
      }
