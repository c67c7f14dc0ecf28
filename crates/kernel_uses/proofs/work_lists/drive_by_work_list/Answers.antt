use Rattle.std.proofs.Common.{◌≡◌, ℕ, ◌+◌, ◌-◌, ◌*◌, ◌<◌, not, take, List, [], ◌∷◌, ◌++◌, All, true, false, length, map, sym, subst, ap, ◌∙◌, length-append}
use Rattle.std.proofs.lemmas.List.Elements.{All-append}
use Rattle.std.specs.Option.{is_some}
use Rattle.design.specs.Circuit.{Circuit, pin_count}
use Rattle.design.proofs.CallerLemmas.{net_of_pin_below}
use Rattle.cmb_events.specs.declared.event.Event.TheVariants.{Advance}
use Rattle.design.specs.Pins.{net_of_pin, pins_fed, sources_of}
use Rattle.cmb_kernel.specs.Step.{counted}
use Rattle.cmb_kernel.specs.Useful.{is_useful, remaining}
use Rattle.kernel_uses.proofs.Leads.{completed, led_circuit, led_exists, led_on}
use Rattle.kernel_uses.proofs.Listed.{AllListed}
use Rattle.kernel_uses.proofs.Visits.{IsVisit, all_first, at_none, few_readers, fewer_visits, left_idle, left_useful, listed_idle, listed_useful, names_none, nothing_useful, one_visit_less, readers_below, visit_led}
use Rattle.kernel_uses.proofs.work_lists.drive_by_work_list.Goals as goal
use Rattle.kernel_uses.proofs.work_lists.drive_by_work_list.Goals.{In_ok-apply, In_ok-add_readers}

visit : (g : _) (c : In_ok-apply g) → IsVisit c.args.kernel.now c.loop-net.kernel c.hear_all.new.kernel c.apply.new.self c.in-Some.net
visit g c = record {
  led = c.loop-net.invariant.led;
  hears = c.in_ok-hear_all.ensures.ok;
  goes = c.in_ok-apply.ensures.ok;
  exists = c.in_ok-apply.ensures.exists;
}

listed : (g : _) (c : In_ok-apply g) → AllListed c.args.kernel.now.circuit c.loop-net.kernel.state (c.pop.new.self.items ++ c.in-Some.net ∷ [])
listed g c = subst (AllListed c.args.kernel.now.circuit c.loop-net.kernel.state) c.in-Some.ensures.items c.loop-net.invariant.listed

within : (g : _) (c : In_ok-apply g) → All (λ net. net < length c.args.kernel.now.circuit) c.pop.new.self.items
within g c =
    all_first (λ net. net < length c.args.kernel.now.circuit) c.pop.new.self.items (c.in-Some.net ∷ [])
    (subst (All (λ net. net < length c.args.kernel.now.circuit)) c.in-Some.ensures.items c.loop-net.invariant.within)

one_more : (g : _) (c : In_ok-apply g) → length c.loop-net.work.items ≡ length c.pop.new.self.items + 1
one_more g c = ap length c.in-Some.ensures.items ∙ length-append c.pop.new.self.items (c.in-Some.net ∷ [])

-- what is on the list when the readers are
readers : (g : _) (c : In_ok-add_readers g) → c.add_readers.new.work.items
    ≡ c.pop.new.self.items ++ map (net_of_pin c.args.kernel.now.circuit) (pins_fed c.in-Some.net (sources_of c.args.kernel.now.circuit))
readers g c =
    let same : c.design.result.now.circuit ≡ c.args.kernel.now.circuit =
    c.design.ensures ∙ ap (λ k. k.circuit) c.in_ok-apply.ensures.ok ∙ led_circuit (led_on c.loop-net.invariant.led c.in_ok-hear_all.ensures.ok.led) in
    c.in_ok-add_readers.ensures
    ∙ ap (λ (circuit : Circuit). c.pop.new.self.items ++ map (net_of_pin circuit) (pins_fed c.in-Some.net (sources_of circuit))) same

pub loop-net-smaller-in-Continue-branch-4 : goal.loop-net-smaller-in-Continue-branch-4
loop-net-smaller-in-Continue-branch-4 g c =
    let at = goal.at.loop-net-smaller-in-Continue-branch-4 g c in
    let start = c.args.kernel.now in
    let ok = c.is_failed.ensures.circuit (sym c.is_failed.ensures.failed ∙ c.if-is_failed.false) in
    let useful : is_useful c.hear_all.new.kernel.state (Advance c.in-Some.net) ≡ true = sym c.in_ok-apply.ensures.useful ∙ c.if-branch.true in
    let less = left_useful (visit g at.In_ok-apply) ok c.progress_left.ensures.useful useful in
    let many = ap length (readers g at.In_ok-add_readers) ∙ length-append c.pop.new.self.items _ in
    let one = one_more g at.In_ok-apply in
    let visits = fewer_visits (remaining start.circuit start.end c.apply.new.self.state) (remaining start.circuit start.end c.loop-net.kernel.state)
    (length (map (net_of_pin start.circuit) (pins_fed c.in-Some.net (sources_of start.circuit)))) (length c.pop.new.self.items) (pin_count start.circuit) less
    (few_readers start.circuit c.in-Some.net) in
    subst (λ n. remaining start.circuit start.end c.apply.new.self.state * (pin_count start.circuit + 1) + length c.add_readers.new.work.items
    < remaining start.circuit start.end c.loop-net.kernel.state * (pin_count start.circuit + 1) + n) (sym one)
    (subst (λ n. remaining start.circuit start.end c.apply.new.self.state * (pin_count start.circuit + 1) + n
    < remaining start.circuit start.end c.loop-net.kernel.state * (pin_count start.circuit + 1) + (length c.pop.new.self.items + 1)) (sym many) visits)

pub loop-net-preserved-in-Continue-branch-4 : goal.loop-net-preserved-in-Continue-branch-4
loop-net-preserved-in-Continue-branch-4 g c =
    let at = goal.at.loop-net-preserved-in-Continue-branch-4 g c in
    let start = c.args.kernel.now in
    let running = sym c.is_failed.ensures.failed ∙ c.if-is_failed.false in
    let ok = c.is_failed.ensures.circuit running in
    let work = sym (readers g at.In_ok-add_readers) in
    record {
      led = visit_led (visit g at.In_ok-apply) ok running c.in_ok-apply.ensures.outcome.sound;
      within = subst (All (λ net. net < length start.circuit)) work
          (All-append (λ net. net < length start.circuit) c.pop.new.self.items _ (within g at.In_ok-apply) (readers_below start.circuit c.in-Some.net));
      listed = subst (AllListed start.circuit c.apply.new.self.state) work
          (listed_useful (visit g at.In_ok-apply) ok c.pop.new.self.items (listed g at.In_ok-apply) c.advances.ensures.others c.advances.ensures.lists
          c.advances.ensures.quiet);
    }

pub loop-net-smaller : goal.loop-net-smaller
loop-net-smaller g c =
    let at = goal.at.loop-net-smaller g c in
    let start = c.args.kernel.now in
    let ok = c.is_failed.ensures.circuit (sym c.is_failed.ensures.failed ∙ c.if-is_failed.false) in
    let less = left_idle (visit g at.In_ok-apply) ok c.progress_left.ensures.any in
    let visits = one_visit_less (remaining start.circuit start.end c.apply.new.self.state) (remaining start.circuit start.end c.loop-net.kernel.state)
    (length c.pop.new.self.items) (pin_count start.circuit) less in
    subst (λ n. remaining start.circuit start.end c.apply.new.self.state * (pin_count start.circuit + 1) + length c.pop.new.self.items
    < remaining start.circuit start.end c.loop-net.kernel.state * (pin_count start.circuit + 1) + n) (sym (one_more g at.In_ok-apply)) visits

pub loop-net-preserved : goal.loop-net-preserved
loop-net-preserved g c =
    let at = goal.at.loop-net-preserved g c in
    let start = c.args.kernel.now in
    let running = sym c.is_failed.ensures.failed ∙ c.if-is_failed.false in
    let ok = c.is_failed.ensures.circuit running in
    let useless : is_useful c.hear_all.new.kernel.state (Advance c.in-Some.net) ≡ false = sym c.in_ok-apply.ensures.useful ∙ c.if-branch.false in
    let hears = c.in_ok-hear_all.ensures.ok in
    let mid = led_on c.loop-net.invariant.led hears.led in
    record {
      led = visit_led (visit g at.In_ok-apply) ok running c.in_ok-apply.ensures.outcome.sound;
      within = within g at.In_ok-apply;
      listed = listed_idle (visit g at.In_ok-apply) ok c.pop.new.self.items (counted c.hear_all.new.kernel.state.counts []) (listed g at.In_ok-apply) useless
          (c.useless_events.ensures start.circuit ok start.end c.hear_all.new.kernel.state mid.sound (Advance c.in-Some.net)
          (led_exists mid (Advance c.in-Some.net) c.in_ok-apply.ensures.exists) useless);
    }

pub prove-unreachable-requires : goal.prove-unreachable-requires
prove-unreachable-requires g c =
    let start = c.args.kernel.now in
    let now = c.loop-net.kernel in
    let ok = c.is_failed.ensures.circuit (sym c.is_failed.ensures.failed ∙ c.if-is_failed.false) in
    let led = c.loop-net.invariant.led in
    let rest : c.pop.new.self.items ≡ [] =
    c.in_default.ensures.rest ∙ ap (λ n. take (n - 1) c.loop-net.work.items) c.in_default.ensures.cases.0 in
    let empty : c.loop-net.work.items ≡ [] = c.in_default.ensures.items ∙ ap (λ (nets : List ℕ). nets ++ []) rest in
    let none = subst (AllListed start.circuit now.state) empty c.loop-net.invariant.listed in
    names_none c.useful.result _ c.useful.ensures.some
    (λ event holds. nothing_useful start.circuit now.state none event (led_exists led event holds.0)
    (λ pin exists. (c.deliveries.ensures.useful start.circuit ok start.end now.state led.sound pin exists).0)
    (net_of_pin_below start.circuit) holds.1)
    c.if-prove.ensures

pub returns-clause-ok : goal.returns-clause-ok
returns-clause-ok g c =
    let none : is_some c.useful.result ≡ false = c.is_none.ensures ∙ ap not c.if-prove.false in
    let running = sym c.is_failed.ensures.failed ∙ c.if-is_failed.false in
    completed c.loop-net.invariant.led (c.is_failed.ensures.circuit running) (c.is_failed.ensures.sound running) (c.useful.ensures.none.0 none) (at_none c.useful.result none c.useful.ensures.frontiers)
    (at_none c.useful.result none c.useful.ensures.waves)
    (λ undrained. at_none c.useful.result none (c.useful.ensures.undrained undrained))
