use Rattle.std.proofs.Common.{◌≡◌, ◌==◌, ◌<◌, ◌≤◌, cond, [], length, Some, refl, ap, sym, subst, ◌∙◌, arith}
use Rattle.logic3.specs.Wave.{IsWave, value_at, value_before, last_value, joined, changes_between}
use Rattle.logic3.proofs.CallerLemmas.{IsWave-wave_of, OnErr_always}
use Rattle.cmb_channels.specs.Packed.{changes_said}
use Rattle.gate_process.specs.Knowledge.{keeping, news_of, news_between}
use Rattle.gate_process.specs.Outputs.{OutputView, state_of}
use Rattle.gate_process.specs.Step.{ProcessState, running, oldest_asked, signal_over, continued, always, reach_of_part, next_frontier, reckoned, advanced}
use Rattle.gate_process.specs.Quiet.{IsQuiet}
use Rattle.gate_process.specs.Truth.{IsProcess}
use Rattle.gate_process.proofs.Advanced.{wave_ends, advanced_of, advanced_wave}
use Rattle.gate_process.proofs.Events.{advanced_is_process}
use Rattle.gate_process.proofs.Heard.{nothing_forgotten_farther}
use Rattle.gate_process.proofs.Quiet.{quiet_advanced}
use Rattle.gate_process.proofs.Walks.{steady_before, news_said, news_rise}
use Rattle.gate_process.proofs.output.Output.advance_into.Given.{Over}
use Rattle.gate_process.proofs.output.Output.advance_into.Goals as goal
use Rattle.gate_process.proofs.output.Output.advance_into.Goals.{After-last, In_ok-to, After-as_slice, After-keep_all}

-- the process before it advances
abbrev before : (g : Over) → After-last g → ProcessState
before g c = state_of c.args.self.now c.args.received.now

-- the value that its net showed last
last_is : (g : Over) (c : After-last g) → c.last.result ≡ last_value (before g c).known.wave
last_is g c = c.last.ensures ∙ ap (λ (o : OutputView). last_value o.known.wave) c.self.view_is

pub extend-requires-clause-begins : goal.extend-requires-clause-begins
extend-requires-clause-begins g c = λ none.
    let at = (goal.at.extend-requires-clause-begins g c).After-last in
    last_is g at ∙ wave_ends (before g at) c.requires.process
    ∙ ap (value_before (value_at (before g at).known.wave)) (sym c.span-span.ensures.from ∙ none)

-- how far the net is computed
to_is : (g : Over) (c : In_ok-to g) → c.in_ok-to.to ≡ next_frontier (state_of c.args.self.now c.args.received.now)
to_is g c =
    let net = ap (λ (o : OutputView). o.net) c.self.view_is in
    c.in_ok-to.ensures.to
    ∙ (λ i. reach_of_part (net i).part (signal_over (net i) c.args.received.now) (c.span-span.ensures.end i) (c.span-span.ensures.from i)
    (c.span-span.ensures.sure i))

-- not less far than it was
ahead : (g : Over) (c : In_ok-to g) → c.args.self.now.known.frontier ≤ c.in_ok-to.to
ahead g c = let to = to_is g c in let within = c.requires.process.ahead in omega (arith, to, within)

-- what the net tells
news_are : (g : Over) (c : In_ok-to g) → c.last.result ≡ last_value c.args.self.now.known.wave → c.extend.new.messages.items
    ≡ news_between (reckoned (state_of c.args.self.now c.args.received.now)) c.args.self.now.known.frontier c.in_ok-to.to
news_are g c last =
    let process = state_of c.args.self.now c.args.received.now in
    let from = process.known.frontier in
    let net = ap (λ (o : OutputView). o.net) c.self.view_is in
    c.in_ok-to.ensures.news
    ∙ (λ i. news_between (continued (always (last i)) (c.span-span.ensures.from i) (signal_over (net i) c.args.received.now))
    (c.span-span.ensures.from i) c.in_ok-to.to)
    ∙ ap (λ cs. cond (c.in_ok-to.to == from) [] (news_of cs c.in_ok-to.to))
    (steady_before process.known.wave from c.in_ok-to.to (signal_over process.net process.received) (wave_ends process c.requires.process))

-- the changes in it
said : (g : Over) (c : In_ok-to g) → c.last.result ≡ last_value c.args.self.now.known.wave → changes_said c.extend.new.messages.items
    ≡ changes_between (reckoned (state_of c.args.self.now c.args.received.now)) c.args.self.now.known.frontier c.in_ok-to.to
said g c last =
    ap changes_said (news_are g c last)
    ∙ news_said (reckoned (state_of c.args.self.now c.args.received.now)) c.args.self.now.known.frontier c.in_ok-to.to (ahead g c)

-- its waveform with these changes
wave_is : (g : Over) (c : After-as_slice g) → c.last.result ≡ last_value c.args.self.now.known.wave →
    changes_said c.extend.new.messages.items
    ≡ changes_between (reckoned (state_of c.args.self.now c.args.received.now)) c.args.self.now.known.frontier c.in_ok-to.to →
    joined (g.W.KeptWave.wave c.self.inside.wave) (changes_said c.as_slice.result.now)
    ≡ joined c.args.self.now.known.wave
    (changes_between (reckoned (state_of c.args.self.now c.args.received.now)) c.args.self.now.known.frontier c.in_ok-to.to)
wave_is g c last changes =
    let wave = ap (λ (o : OutputView). o.known.wave) c.self.view_is in
    let now = ap changes_said c.as_slice.ensures.value ∙ changes in
    λ i. joined (wave i) (now i)

pub add-requires : goal.add-requires
add-requires g c =
    let process = state_of c.args.self.now c.args.received.now in
    let last = last_is g (goal.at.add-requires g c).After-last in
    let to = (goal.at.add-requires g c).In_ok-to in
    subst IsWave (sym (wave_is g (goal.at.add-requires g c).After-as_slice last (said g to last)
    ∙ ap (λ n. joined process.known.wave (changes_between (reckoned process) process.known.frontier n)) (to_is g to)
    ∙ advanced_wave process c.requires.process))
    (IsWave-wave_of (reckoned process) process.floor (next_frontier process))

pub returns-in_err-add-clause-memory : goal.returns-in_err-add-clause-memory
returns-in_err-add-clause-memory g c =
    let process = state_of c.args.self.now c.args.received.now in
    let last = last_is g (goal.at.returns-in_err-add-clause-memory g c).After-last in
    let to = (goal.at.returns-in_err-add-clause-memory g c).In_ok-to in
    let rises = news_rise (reckoned process) process.known.frontier c.in_ok-to.to (ahead g to)
    (subst (λ (ms : _). 0 < length ms) (c.as_slice.ensures.value ∙ news_are g to last) c.in_err-add.ensures.memory) in
    OnErr_always _ (subst (λ n. process.known.frontier < n) (to_is g to) rises)

pub keep_all-requires-clause-begin : goal.keep_all-requires-clause-begin
keep_all-requires-clause-begin g c =
    let process = state_of c.args.self.now c.args.received.now in
    let within = ahead g (goal.at.keep_all-requires-clause-begin g c).In_ok-to in
    rw (ap (λ (o : OutputView). o.net) c.self.view_is)
    (λ place known here none. nothing_forgotten_farther process
    (record process { known = record { wave = process.known.wave; frontier = c.in_ok-to.to } }) place known c.requires.process here refl
    within none)

has_advanced : (g : Over) (c : After-keep_all g) → c.in_ok-to.to ≡ next_frontier (state_of c.args.self.now c.args.received.now) →
    joined (g.W.KeptWave.wave c.self.inside.wave) (changes_said c.as_slice.result.now)
    ≡ joined c.args.self.now.known.wave
    (changes_between (reckoned (state_of c.args.self.now c.args.received.now)) c.args.self.now.known.frontier c.in_ok-to.to) → record {
      net = c.self.inside.net;
      end = c.self.inside.end;
      floor = c.self.inside.floor;
      known = record { wave = g.W.KeptWave.wave c.add.new.self; frontier = c.in_ok-to.to };
      received = c.keep_all.new.received;
    } ≡ advanced (state_of c.args.self.now c.args.received.now)
has_advanced g c to wave =
    let process = state_of c.args.self.now c.args.received.now in
    let net = ap (λ (o : OutputView). o.net) c.self.view_is in
    let end = ap (λ (o : OutputView). o.end) c.self.view_is in
    let floor = ap (λ (o : OutputView). o.floor) c.self.view_is in
    (λ i. record {
      net = net i;
      end = end i;
      floor = floor i;
      known = record { wave = g.W.KeptWave.wave c.add.new.self; frontier = c.in_ok-to.to };
      received = c.keep_all.new.received;
    })
    ∙ advanced_of process c.requires.process (g.W.KeptWave.wave c.add.new.self) c.in_ok-to.to c.keep_all.new.received to
    (c.in_ok-add.ensures.ok ∙ wave) c.keep_all.ensures.pins
    (λ place known at. c.keep_all.ensures.each place known at
    ∙ ap (λ n. Some (keeping (oldest_asked n place c.in_ok-to.to) known)) net)

pub returns-clause-news : goal.returns-clause-news
returns-clause-news g c =
    let process = state_of c.args.self.now c.args.received.now in
    let to = (goal.at.returns-clause-news g c).In_ok-to in
    news_are g to (last_is g (goal.at.returns-clause-news g c).After-last)
    ∙ ap (news_between (reckoned process) process.known.frontier) (to_is g to)

pub returns-clause-state : goal.returns-clause-state
returns-clause-state g c =
    let at = goal.at.returns-clause-state g c in
    let last = last_is g at.After-last in
    ap running (has_advanced g at.After-keep_all (to_is g at.In_ok-to) (wave_is g at.After-as_slice last (said g at.In_ok-to last)))

pub returns-clause-process : goal.returns-clause-process
returns-clause-process g c =
    let at = goal.at.returns-clause-process g c in
    let last = last_is g at.After-last in
    subst IsProcess (sym (has_advanced g at.After-keep_all (to_is g at.In_ok-to) (wave_is g at.After-as_slice last (said g at.In_ok-to last))))
    (advanced_is_process (state_of c.args.self.now c.args.received.now) c.requires.process)

pub returns-clause-quiet : goal.returns-clause-quiet
returns-clause-quiet g c =
    let at = goal.at.returns-clause-quiet g c in
    let last = last_is g at.After-last in
    subst IsQuiet (sym (has_advanced g at.After-keep_all (to_is g at.In_ok-to) (wave_is g at.After-as_slice last (said g at.In_ok-to last))))
    (quiet_advanced (state_of c.args.self.now c.args.received.now) c.requires.process)
