-- An accepting run traced back from its last state.
use Rattle.std.proofs.Common.{◌≡◌, ◌∙◌, ℕ, ◌≤◌, ◌<◌, ◌+◌, List, [], ◌∷◌, ◌++◌, length, get_or, take, drop, reverse, refl, sym, ap, subst, inl, inr, arith, add-one, length-append}
use Rattle.std.specs.Global.{Vec}
use Rattle.std.proofs.lemmas.List.{take_more, take_all, drop_all, reverse-append, reverse-reverse}
use Rattle.std.proofs.Math.Seq.{drop-cons}
use Rattle.nwa_base.specs.declared.letters.Kind.{Kind}
use Rattle.nwa_base.specs.declared.letters.Kind.TheVariants as kinds
use Rattle.nwa_base.specs.declared.letters.Letter.{Letter}
use Rattle.nwa_base.specs.declared.reading.Step.{Step}
use Rattle.nwa_base.specs.declared.reading.Step.TheVariants as steps
use Rattle.nwa_base.specs.Members.{Member}
use Rattle.nwa_base.specs.Automata.{Automaton}
use Rattle.nwa_base.specs.Acceptance.{Follows}
use Rattle.nwa_base.specs.Runs.{EndsFinal, IsAcceptingRun}
use Rattle.nwa_base.specs.Ties.Reading.{sets_of, IsStep}
use Rattle.nwa_base.specs.Ties.Tracing.{first_sets, IsPast, IsRead, Chained, required, CanStepBack, StepsBack, CallsBack, GoesOut}
use Rattle.nwa_base.proofs.RunLemmas.{RunOn, follows_with, accepting_run}
use Rattle.nwa_base.proofs.ReadingLemmas.{IsReading, reading_start, reading_goes, reading_ends}

-- one letter more was read
pub past_push : (m : Automaton) (sets : List (List (ℕ × ℕ))) (w : List Letter) (steps : List Step) (mid last : List (List (ℕ × ℕ))) (a : Letter) (step : Step) →
    IsPast m sets w steps mid → IsStep m a step mid last → IsPast m sets (w ++ a ∷ []) (steps ++ step ∷ []) last
past_push m sets [] [] mid last a step h g = (last, subst (λ (s : List (List (ℕ × ℕ))). IsStep m a step s last) (sym h) g, refl)
past_push m sets [] (s ∷ steps) mid last a step h g = absurd h
past_push m sets (b ∷ w) [] mid last a step h g = absurd h
past_push m sets (b ∷ w) (s ∷ steps) mid last a step h g = (h.0, h.1, past_push m h.0 w steps mid last a step h.2 g)

-- the last letter that was read
pub past_pop : (m : Automaton) (sets : List (List (ℕ × ℕ))) (w : List Letter) (steps : List Step) (last : List (List (ℕ × ℕ))) (a : Letter) (step : Step) →
    IsPast m sets (w ++ a ∷ []) (steps ++ step ∷ []) last →
    (mid : List (List (ℕ × ℕ))) × IsPast m sets w steps mid × IsStep m a step mid last
past_pop m sets [] [] last a step h = (sets, refl, subst (IsStep m a step sets) h.2 h.1)
past_pop m sets [] (s ∷ []) last a step h = absurd h.2
past_pop m sets [] (s ∷ t ∷ steps) last a step h = absurd h.2
past_pop m sets (b ∷ []) [] last a step h = absurd h.2
past_pop m sets (b ∷ c ∷ w) [] last a step h = absurd h.2
past_pop m sets (b ∷ w) (s ∷ steps) last a step h =
    let r = past_pop m h.0 w steps last a step h.2 in (r.0, (h.0, h.1, r.1), r.2)

pub past_length : (m : Automaton) (sets : List (List (ℕ × ℕ))) (w : List Letter) (steps : List Step) (last : List (List (ℕ × ℕ))) →
    IsPast m sets w steps last → length steps ≡ length w
past_length m sets [] [] last h = refl
past_length m sets [] (s ∷ steps) last h = absurd h
past_length m sets (a ∷ w) [] last h = absurd h
past_length m sets (a ∷ w) (s ∷ steps) last h = let e : length steps ≡ length w = past_length m h.0 w steps last h.2 in omega arith

-- what the loop that reads a word keeps
pub record IsPartRead (m : Automaton) (w : List Letter) (i : ℕ) (steps : List Step) (sets : List (List (ℕ × ℕ))) : Type 0 where
  pub past : IsPast m (first_sets m) (take i w) steps sets
  pub reading : IsReading m w i sets

pub part_read_start : (m : Automaton) (w : List Letter) (steps : List Step) (s : List (ℕ × ℕ)) (saved : List (Vec (ℕ × ℕ))) →
    s ≡ (m.start, m.start) ∷ [] → saved ≡ [] → steps ≡ [] → IsPartRead m w 0 steps (s ∷ sets_of saved)
part_read_start m w steps s saved e f g = record {
  past = subst (λ (l : List Step). IsPast m (first_sets m) [] l (s ∷ sets_of saved)) (sym g) (λ i. sym e i ∷ sets_of (sym f i));
  reading = reading_start m w s saved e f;
}

pub part_read_goes : (m : Automaton) (w : List Letter) (i : ℕ) (d : Letter) (steps new : List Step) (step : Step) (sets next : List (List (ℕ × ℕ))) →
    i < length w → IsPartRead m w i steps sets → IsStep m (get_or w i d) step sets next → new ≡ steps ++ step ∷ [] → IsPartRead m w (i + 1) new next
part_read_goes m w i d steps new step sets next l v h e = record {
  past =
      let r = past_push m (first_sets m) (take i w) steps sets next (get_or w i d) step v.past h in
      rw (e, take_more w i d l) r;
  reading = reading_goes m w i (get_or w i d) d step sets next l refl v.reading h;
}

pub part_read_ends : (m : Automaton) (w : List Letter) (i : ℕ) (steps : List Step) (s : List (ℕ × ℕ)) (sets : List (List (ℕ × ℕ))) →
    length w ≤ i → IsPartRead m w i steps (s ∷ sets) → IsRead m w steps s sets
part_read_ends m w i steps s sets l v = record {
  past = subst (λ (r : List Letter). IsPast m (first_sets m) r steps (s ∷ sets)) (take_all i w l) v.past;
  ends = (reading_ends m w i s sets v.reading l).1;
}

chained_head : (s : List (ℕ × ℕ)) (sets : List (List (ℕ × ℕ))) (keys : List ℕ) (k q : ℕ) (saved : List (List (ℕ × ℕ))) →
    Chained (s ∷ sets) keys k q saved → Member s (k, q)
chained_head s sets [] k q saved h = h.0
chained_head s sets (x ∷ keys) k q saved h = h.0

chained_swap : (s t : List (ℕ × ℕ)) (sets next : List (List (ℕ × ℕ))) (keys : List ℕ) (k q e : ℕ) (saved : List (List (ℕ × ℕ))) →
    sets ≡ next → Member s (k, q) → Chained (t ∷ next) keys k e saved → Chained (s ∷ sets) keys k q saved
chained_swap s t sets next [] k q e saved i h g = (h, i ∙ g.1)
chained_swap s t sets next (x ∷ keys) k q e saved i h g = (h, subst (λ (l : List (List (ℕ × ℕ))). Chained l keys x k saved) (sym i) g.1)

-- an inside letter
inside_can : (m : Automaton) (a : Letter) (before : Vec (ℕ × ℕ)) (keys : List ℕ) (here : ℕ × ℕ) (saved sets next : List (List (ℕ × ℕ))) →
    IsStep m a (steps.Inside before) sets next → Chained next keys here.0 here.1 saved →
    (a.kind ≡ kinds.Inside) × ((q : ℕ) × Member before.items (here.0, q) × Member m.insides (q, a, here.1))
inside_can m a before keys here saved [] next h g = absurd h
inside_can m a before keys here saved (s ∷ sets) [] h g = absurd h
inside_can m a before keys here saved (s ∷ sets) (t ∷ next) h g =
    let r = h.3.sound here.0 here.1 (chained_head t next keys here.0 here.1 saved g) in
    (h.0, (r.0, subst (λ (l : List (ℕ × ℕ)). Member l (here.0, r.0)) (sym h.1) r.1, r.2))

pub inside_ready : (m : Automaton) (a : Letter) (before : Vec (ℕ × ℕ)) (keys : List ℕ) (here : ℕ × ℕ) (saved : List (List (ℕ × ℕ))) →
    CanStepBack m a (steps.Inside before) keys here saved → (q : ℕ) × Member before.items (here.0, q) × Member m.insides (q, a, here.1)
inside_ready m a before keys here saved h = (inside_can m a before keys here saved h.0 h.1 h.2 h.3).1

inside_chained : (m : Automaton) (a : Letter) (before : Vec (ℕ × ℕ)) (keys : List ℕ) (here : ℕ × ℕ) (q : ℕ) (saved sets next : List (List (ℕ × ℕ))) →
    Member before.items (here.0, q) → IsStep m a (steps.Inside before) sets next → Chained next keys here.0 here.1 saved →
    Chained sets keys here.0 q saved
inside_chained m a before keys here q saved [] next k h g = absurd h
inside_chained m a before keys here q saved (s ∷ sets) [] k h g = absurd h
inside_chained m a before keys here q saved (s ∷ sets) (t ∷ next) k h g =
    chained_swap s t sets next keys here.0 q here.1 saved h.2 (subst (λ (l : List (ℕ × ℕ)). Member l (here.0, q)) h.1 k) g

pub inside_back : (m : Automaton) (a : Letter) (before : Vec (ℕ × ℕ)) (keys : List ℕ) (here : ℕ × ℕ) (q : ℕ) (saved : List (List (ℕ × ℕ))) →
    CanStepBack m a (steps.Inside before) keys here saved → Member before.items (here.0, q) → Member m.insides (q, a, here.1) →
    StepsBack m a (steps.Inside before) keys here saved keys (here.0, q) saved
inside_back m a before keys here q saved can k edge = record {
  chained = λ sets next h g. inside_chained m a before keys here q saved sets next k h g;
  follows = λ below. (
    below,
    subst (λ (kind : Kind). Follows m kind a (required here.0 keys ++ below) q here.1 (λ s. s ≡ required here.0 keys ++ below))
        (sym (inside_can m a before keys here saved can.0 can.1 can.2 can.3).0) (edge, refl),
  );
}

-- a call letter
call_can : (m : Automaton) (a : Letter) (keys : List ℕ) (here : ℕ × ℕ) (saved sets next : List (List (ℕ × ℕ))) →
    IsStep m a steps.Call sets next → Chained next keys here.0 here.1 saved →
    (a.kind ≡ kinds.Call) × Member m.calls (here.0, a, here.1) × CallsBack keys saved here.0
call_can m a keys here saved [] next h g = absurd h
call_can m a keys here saved (s ∷ sets) [] h g = absurd h
call_can m a [] here saved (s ∷ sets) (t ∷ next) h g =
    let r = h.2.sound here.0 here.1 g.0 in
    (h.0, r.2, subst (λ (l : List (List (ℕ × ℕ))). CallsBack [] l here.0) (h.1 ∙ g.1) (r.0, r.1))
call_can m a (x ∷ keys) here saved (s ∷ sets) (t ∷ next) h g =
    let r = h.2.sound here.0 here.1 g.0 in (h.0, r.2, tt)

pub call_ready : (m : Automaton) (a : Letter) (keys : List ℕ) (here : ℕ × ℕ) (saved : List (List (ℕ × ℕ))) →
    CanStepBack m a steps.Call keys here saved → CallsBack keys saved here.0
call_ready m a keys here saved h = (call_can m a keys here saved h.0 h.1 h.2 h.3).2

call_chained : (m : Automaton) (a : Letter) (keys keys' : List ℕ) (here : ℕ × ℕ) (k : ℕ) (saved saved' sets next : List (List (ℕ × ℕ))) →
    GoesOut keys saved here.0 keys' saved' k → IsStep m a steps.Call sets next → Chained next keys here.0 here.1 saved →
    Chained sets keys' k here.0 saved'
call_chained m a keys keys' here k saved saved' [] next o h g = absurd h
call_chained m a keys keys' here k saved saved' (s ∷ sets) [] o h g = absurd h
call_chained m a (x ∷ keys) keys' here k saved saved' (s ∷ sets) (t ∷ next) o h g =
    let inner : Chained next keys x here.0 saved = g.1 in
    rw (o.0, o.1, o.2) (subst (λ (l : List (List (ℕ × ℕ))). Chained l keys x here.0 saved) (sym h.1) inner)
call_chained m a [] keys' here k [] saved' (s ∷ sets) (t ∷ next) o h g = absurd o
call_chained m a [] keys' here k (u ∷ saved) saved' (s ∷ sets) (t ∷ next) o h g =
    let e : s ∷ sets ≡ u ∷ saved = h.1 ∙ g.1 in
    let i : s ≡ u = cc in
    let j : sets ≡ saved = cc in
    rw (o.1, o.2) (subst (λ (l : List (ℕ × ℕ)). Member l (k, here.0)) (sym i) o.0, j)

call_follows : (m : Automaton) (a : Letter) (keys keys' : List ℕ) (here : ℕ × ℕ) (k : ℕ) (saved saved' : List (List (ℕ × ℕ))) →
    GoesOut keys saved here.0 keys' saved' k → Member m.calls (here.0, a, here.1) → (below : List ℕ) →
    (below' : List ℕ) × Follows m kinds.Call a (required k keys' ++ below) here.0 here.1 (λ s. s ≡ required here.0 keys ++ below')
call_follows m a (x ∷ keys) keys' here k saved saved' o edge below = (below, (edge, rw (o.0, o.1) refl))
call_follows m a [] keys' here k [] saved' o edge below = absurd o
call_follows m a [] keys' here k (u ∷ saved) saved' o edge below = (here.0 ∷ below, (edge, rw o.1 refl))

pub call_back : (m : Automaton) (a : Letter) (keys keys' : List ℕ) (here : ℕ × ℕ) (k : ℕ) (saved saved' : List (List (ℕ × ℕ))) →
    CanStepBack m a steps.Call keys here saved → GoesOut keys saved here.0 keys' saved' k →
    StepsBack m a steps.Call keys here saved keys' (k, here.0) saved'
call_back m a keys keys' here k saved saved' can o =
    let r = call_can m a keys here saved can.0 can.1 can.2 can.3 in
    record {
      chained = λ sets next h g. call_chained m a keys keys' here k saved saved' sets next o h g;
      follows = λ below.
          let f = call_follows m a keys keys' here k saved saved' o r.1 below in
          (f.0, subst (λ (kind : Kind). Follows m kind a (required k keys' ++ below) here.0 here.1 (λ s. s ≡ required here.0 keys ++ f.0)) (sym r.0) f.1);
    }

-- a return
back_can : (m : Automaton) (a : Letter) (outer before : Vec (ℕ × ℕ)) (keys : List ℕ) (here : ℕ × ℕ) (saved sets next : List (List (ℕ × ℕ))) →
    IsStep m a (steps.Back outer before) sets next → Chained next keys here.0 here.1 saved →
    (a.kind ≡ kinds.Back) × ((p : ℕ) × (q : ℕ) × Member outer.items (here.0, p) × Member before.items (p, q) × Member m.backs (q, p, a, here.1))
back_can m a outer before keys here saved [] next h g = absurd h
back_can m a outer before keys here saved (s ∷ sets) [] h g = absurd h
back_can m a outer before keys here saved (s ∷ sets) (t ∷ next) h g =
    let r = h.3.sound here.0 here.1 (chained_head t next keys here.0 here.1 saved g) in
    (h.0, (r.0, r.1, r.2, subst (λ (l : List (ℕ × ℕ)). Member l (r.0, r.1)) (sym h.1) r.3, r.4))

pub back_ready : (m : Automaton) (a : Letter) (outer before : Vec (ℕ × ℕ)) (keys : List ℕ) (here : ℕ × ℕ) (saved : List (List (ℕ × ℕ))) →
    CanStepBack m a (steps.Back outer before) keys here saved →
    (p : ℕ) × (q : ℕ) × Member outer.items (here.0, p) × Member before.items (p, q) × Member m.backs (q, p, a, here.1)
back_ready m a outer before keys here saved h = (back_can m a outer before keys here saved h.0 h.1 h.2 h.3).1

back_chained : (m : Automaton) (a : Letter) (outer before : Vec (ℕ × ℕ)) (keys : List ℕ) (here x : ℕ × ℕ) (saved sets next : List (List (ℕ × ℕ))) →
    Member outer.items (here.0, x.0) → Member before.items x → IsStep m a (steps.Back outer before) sets next → Chained next keys here.0 here.1 saved →
    Chained sets (here.0 ∷ keys) x.0 x.1 saved
back_chained m a outer before keys here x saved [] next o b h g = absurd h
back_chained m a outer before keys here x saved (s ∷ sets) [] o b h g = absurd h
back_chained m a outer before keys here x saved (s ∷ sets) (t ∷ next) o b h g = (
  subst (λ (l : List (ℕ × ℕ)). Member l x) h.1 b,
  subst (λ (l : List (List (ℕ × ℕ))). Chained l keys here.0 x.0 saved) (sym h.2)
      (chained_swap outer.items t next next keys here.0 x.0 here.1 saved refl o g),
)

pub back_back : (m : Automaton) (a : Letter) (outer before : Vec (ℕ × ℕ)) (keys new : List ℕ) (here x : ℕ × ℕ) (saved : List (List (ℕ × ℕ))) →
    CanStepBack m a (steps.Back outer before) keys here saved →
    Member outer.items (here.0, x.0) → Member before.items x → Member m.backs (x.1, x.0, a, here.1) → new ≡ here.0 ∷ keys →
    StepsBack m a (steps.Back outer before) keys here saved new x saved
back_back m a outer before keys new here x saved can o b edge e =
    subst (λ (l : List ℕ). StepsBack m a (steps.Back outer before) keys here saved l x saved) (sym e) (record {
      chained = λ sets next h g. back_chained m a outer before keys here x saved sets next o b h g;
      follows = λ below. (
        below,
        subst (λ (kind : Kind). Follows m kind a (required x.0 (here.0 ∷ keys) ++ below) x.1 here.1 (λ s. s ≡ required here.0 keys ++ below))
            (sym (back_can m a outer before keys here saved can.0 can.1 can.2 can.3).0) (edge, refl),
      );
    })

-- what the loop that traces a run back keeps: `steps` are still to be stepped over, and from the pair `here` the states of
-- the run lead on to a final one
pub record IsTracing (m : Automaton) (w : List Letter) (steps : List Step) (keys : List ℕ) (here : ℕ × ℕ)
    (saved : List (List (ℕ × ℕ))) (run : List ℕ) : Type 0 where
  pub sets : List (List (ℕ × ℕ))
  pub more : List ℕ
  pub within : length steps ≤ length w
  pub past : IsPast m (first_sets m) (take (length steps) w) steps sets
  pub chained : Chained sets keys here.0 here.1 saved
  pub run_is : run ≡ reverse (here.1 ∷ more)
  pub goes : (below : List ℕ) → RunOn m (required here.0 keys ++ below) here.1 (drop (length steps) w) more
  pub ends : EndsFinal m (here.1 ∷ more)

pub tracing_starts : (m : Automaton) (w : List Letter) (steps : List Step) (keys : List ℕ) (last : ℕ × ℕ) (s : List (ℕ × ℕ))
    (saved : List (List (ℕ × ℕ))) (run : List ℕ) → IsPast m (first_sets m) w steps (s ∷ saved) → Member s last → Member m.finals last.1 →
    keys ≡ [] → run ≡ last.1 ∷ [] → IsTracing m w steps keys last saved run
tracing_starts m w steps keys last s saved run h k f e g =
    let l : length steps ≡ length w = past_length m (first_sets m) w steps (s ∷ saved) h in
    record {
      sets = s ∷ saved;
      more = [];
      within = omega arith;
      past = subst (λ (r : List Letter). IsPast m (first_sets m) r steps (s ∷ saved)) (sym (take_all (length steps) w (omega arith))) h;
      chained = subst (λ (r : List ℕ). Chained (s ∷ saved) r last.0 last.1 saved) (sym e) (k, refl);
      run_is = g;
      goes = λ below. subst (λ (r : List Letter). RunOn m (required last.0 keys ++ below) last.1 r []) (sym (drop_all (length steps) w (omega arith))) tt;
      ends = f;
    }

-- the last step is there to be stepped over
pub tracing_can : (m : Automaton) (w : List Letter) (all rest : List Step) (step : Step) (d : Letter) (keys : List ℕ) (here : ℕ × ℕ)
    (saved : List (List (ℕ × ℕ))) (run : List ℕ) → IsTracing m w all keys here saved run → all ≡ rest ++ step ∷ [] →
    (length rest < length w) × ((mid : List (List (ℕ × ℕ))) × (sets : List (List (ℕ × ℕ))) × IsPast m (first_sets m) (take (length rest) w) rest mid ×
    IsStep m (get_or w (length rest) d) step mid sets × Chained sets keys here.0 here.1 saved)
tracing_can m w all rest step d keys here saved run v e =
    let long : length all ≡ length rest + 1 = ap length e ∙ length-append rest (step ∷ []) in
    let in_range : length rest < length w = (let l = v.within in omega arith) in
    let front : take (length all) w ≡ take (length rest) w ++ get_or w (length rest) d ∷ [] =
    ap (λ (n : ℕ). take n w) long ∙ take_more w (length rest) d in_range in
    let h : IsPast m (first_sets m) (take (length rest) w ++ get_or w (length rest) d ∷ []) (rest ++ step ∷ []) v.sets =
    subst (λ (r : List Letter). IsPast m (first_sets m) r (rest ++ step ∷ []) v.sets) front
    (subst (λ (r : List Step). IsPast m (first_sets m) (take (length all) w) r v.sets) e v.past) in
    let r = past_pop m (first_sets m) (take (length rest) w) rest v.sets (get_or w (length rest) d) step h in
    (in_range, (r.0, v.sets, r.1, r.2, v.chained))

pub tracing_goes : (m : Automaton) (w : List Letter) (all rest : List Step) (step : Step) (d : Letter) (keys keys' : List ℕ) (here before : ℕ × ℕ)
    (saved saved' : List (List (ℕ × ℕ))) (run run' : List ℕ) → IsTracing m w all keys here saved run → all ≡ rest ++ step ∷ [] →
    StepsBack m (get_or w (length rest) d) step keys here saved keys' before saved' → run' ≡ run ++ before.1 ∷ [] →
    IsTracing m w rest keys' before saved' run'
tracing_goes m w all rest step d keys keys' here before saved saved' run run' v e b f =
    let long : length all ≡ length rest + 1 = ap length e ∙ length-append rest (step ∷ []) in
    let r = tracing_can m w all rest step d keys here saved run v e in
    let front : drop (length rest) w ≡ get_or w (length rest) d ∷ drop (length all) w =
    drop-cons w (length rest) d r.0 ∙ ap (λ (n : ℕ). get_or w (length rest) d ∷ drop n w) (sym (long ∙ add-one (length rest))) in
    record {
      sets = r.1.0;
      more = here.1 ∷ v.more;
      within = (let l = r.0 in omega arith);
      past = r.1.2;
      chained = b.chained r.1.0 r.1.1 r.1.3 r.1.4;
      run_is = f ∙ ap (λ (l : List ℕ). l ++ before.1 ∷ []) v.run_is ∙ sym (reverse-append (before.1 ∷ []) (here.1 ∷ v.more));
      goes = λ below.
          let g = b.follows below in
          subst (λ (l : List Letter). RunOn m (required before.0 keys' ++ below) before.1 l (here.1 ∷ v.more)) (sym front)
          (follows_with m (get_or w (length rest) d).kind (get_or w (length rest) d) (required before.0 keys' ++ below) before.1 here.1
          (required here.0 keys ++ g.0) (λ stack. RunOn m stack here.1 (drop (length all) w) v.more) g.1 (v.goes g.0));
      ends = v.ends;
    }

only_here : (start : ℕ) (here : ℕ × ℕ) → Member {X = ℕ × ℕ} ((start, start) ∷ []) (here.0, here.1) → here.1 ≡ start
only_here start here (inl e) = sym (ap (λ (y : ℕ × ℕ). y.1) e)
only_here start here (inr h) = absurd h

first_chained : (m : Automaton) (keys : List ℕ) (here : ℕ × ℕ) (saved : List (List (ℕ × ℕ))) → Chained (first_sets m) keys here.0 here.1 saved →
    (keys ≡ []) × (here.1 ≡ m.start)
first_chained m [] here saved h = (refl, only_here m.start here h.0)
first_chained m (x ∷ keys) here saved h = absurd h.1

pub tracing_ends : (m : Automaton) (w : List Letter) (steps : List Step) (keys : List ℕ) (here : ℕ × ℕ) (saved : List (List (ℕ × ℕ))) (run : List ℕ) →
    IsTracing m w steps keys here saved run → steps ≡ [] → IsAcceptingRun m w (reverse run)
tracing_ends m w steps keys here saved run v e =
    let none : IsPast m (first_sets m) [] [] v.sets = subst (λ (l : List Step). IsPast m (first_sets m) (take (length l) w) l v.sets) e v.past in
    let c = first_chained m keys here saved (subst (λ (l : List (List (ℕ × ℕ))). Chained l keys here.0 here.1 saved) (sym none) v.chained) in
    let goes : RunOn m [] here.1 w v.more =
    subst (λ (l : List ℕ). RunOn m (required here.0 l ++ []) here.1 w v.more) c.0
    (subst (λ (l : List Step). RunOn m (required here.0 keys ++ []) here.1 (drop (length l) w) v.more) e (v.goes [])) in
    let back : reverse run ≡ m.start ∷ v.more = ap reverse v.run_is ∙ reverse-reverse (here.1 ∷ v.more) ∙ ap (λ (q : ℕ). q ∷ v.more) c.1 in
    subst (IsAcceptingRun m w) (sym back)
    (accepting_run m w v.more (subst (λ (q : ℕ). RunOn m [] q w v.more) c.1 goes) (subst (λ (q : ℕ). EndsFinal m (q ∷ v.more)) c.1 v.ends))
