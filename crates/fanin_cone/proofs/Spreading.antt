-- The walk from nets on to the nets that they feed.
use Rattle.std.proofs.Common.{◌≡◌, ℕ, ◌<◌, Bool, false, List, [], ◌∷◌, ◌++◌, length, replicate, refl, sym, ap, ◌∙◌, subst, arith, All, Contains, ◌⊎◌, inl, inr, IsTrue, true≢false, ⊎_elim}
use Rattle.std.proofs.lemmas.List.{length-replicate}
use Rattle.std.proofs.lemmas.List.Elements.{All-nil, All-contains_itself, All-weaker, Contains-append_left, Contains-get_or, Contains-push, Contains-push_cases}
use Rattle.netlist.specs.Netlist.{NetView, NetlistView, net_at, name_at}
use Rattle.netlist.proofs.CallerLemmas.{no_net}
use Rattle.design.specs.Design.{DesignView, IsDesign}
use Rattle.design.proofs.CallerLemmas.{length-circuit}
use Rattle.fanin_cone.specs.Cone.{InCone, pin_names, start, pin}
use Rattle.fanin_cone.specs.Dependents.{fed_nets, DependsOn, MarksDependents}
use Rattle.fanin_cone.specs.Walk.{is_marked, Marks}
use Rattle.fanin_cone.proofs.FedNets.{fed-from_pin, fed-has_pin}
use Rattle.fanin_cone.proofs.Listed.{Contains-from_map, Contains-map, Contains-one}
use Rattle.fanin_cone.proofs.Marking.{no_mark, mark_kept, All-marked, mark_cases, All-listed, listed_before, listed_new}
use Rattle.fanin_cone.proofs.NetNames.{number_of_net, pins_below, same_net}
use Rattle.fanin_cone.proofs.Walking.{HasMarks, has_mark, is_below}

-- the marked nets depend on one of the starts, and the nets that each feeds are marked, unless the net waits
pub record IsSpread (design : DesignView) (starts : List ℕ) (marks : List Bool) (waiting : List ℕ) : Type 0 where
  pub size : length marks ≡ length design.circuit
  pub depend : (net : ℕ) → IsTrue (is_marked marks net) → (net < length design.circuit) × DependsOn design.netlist starts net
  pub from_starts : HasMarks marks starts
  pub from_waiting : HasMarks marks waiting
  pub seen : (net : ℕ) → IsTrue (is_marked marks net) → Contains waiting net ⊎ HasMarks marks (fed_nets design.circuit net)

-- what is in the cone of a net at a pin is in the cone of the pin's net
InCone-through : (netlist : NetlistView) (from : NetView) (source : List ℕ) → Contains netlist.nets from → Contains (pin_names netlist from.pins) source →
    (name : List ℕ) → InCone netlist (source ∷ []) name → InCone netlist (from.name ∷ []) name
InCone-through netlist from source has at _ (start name is) =
    pin from name has (start from.name (0, omega arith, refl)) (subst (Contains (pin_names netlist from.pins)) (Contains-one source name is) at)
InCone-through netlist from source has at _ (pin net name there before is) =
    pin net name there (InCone-through netlist from source has at net.name before) is

module _ (design : DesignView) (ok : IsDesign design) (starts : List ℕ) where
  -- the starts alone
  pub IsSpread-starts : (marks : List Bool) (waiting : List ℕ) → All (λ net. net < length design.circuit) starts →
      Marks starts (replicate (length design.circuit) false) marks [] waiting → IsSpread design starts marks waiting
  IsSpread-starts marks waiting below marked = record {
    size = marked.size ∙ length-replicate (length design.circuit) false;
    depend = λ net is. ⊎_elim
        (λ was. absurd (true≢false (sym was ∙ no_mark (length design.circuit) net)))
        (λ new. (is_below (length design.circuit) starts net below new.1, itself net new.1))
        (mark_cases marked net is);
    from_starts = All-marked marked;
    from_waiting = All-listed marked (λ n. IsTrue (is_marked marks n)) (All-nil (λ n. IsTrue (is_marked marks n))) (All-marked marked);
    seen = λ net is. ⊎_elim
        (λ was. absurd (true≢false (sym was ∙ no_mark (length design.circuit) net)))
        (λ new. inl (listed_new marked net new.0 new.1))
        (mark_cases marked net is);
  }
    where
      itself : (net : ℕ) → Contains starts net → DependsOn design.netlist starts net
      itself net at = record { origin = net; listed = at; inside = start (name_at design.netlist net) (0, omega arith, refl) }

  -- a net that is fed by one that depends on a start depends on it too
  depends_on : (net fed : ℕ) → DependsOn design.netlist starts net → Contains (fed_nets design.circuit net) fed →
      (fed < length design.circuit) × DependsOn design.netlist starts fed
  depends_on net fed depends at =
      let there = fed-has_pin design ok net fed at in
      let from = net_at design.netlist fed in
      let below : fed < length design.netlist.nets = omega (arith, there.0, length-circuit design ok) in (
        there.0,
        record {
          origin = depends.origin;
          listed = depends.listed;
          inside = InCone-through design.netlist from (name_at design.netlist net) (Contains-get_or design.netlist.nets fed no_net below)
              (Contains-map (name_at design.netlist) from.pins net there.1) (name_at design.netlist depends.origin) depends.inside;
        },
      )

  -- the nets that the one that waited last feeds
  pub IsSpread-fed : (marks new : List Bool) (rest waiting : List ℕ) (net : ℕ) →
      IsSpread design starts marks (rest ++ net ∷ []) → Marks (fed_nets design.circuit net) marks new rest waiting → IsSpread design starts new waiting
  IsSpread-fed marks new rest waiting net spread marked =
      let here = spread.depend net (has_mark marks (rest ++ net ∷ []) net spread.from_waiting (Contains-push rest net)) in
      record {
        size = marked.size ∙ spread.size;
        depend = λ other is. ⊎_elim
            (spread.depend other)
            (λ came. depends_on net other here.1 came.1)
            (mark_cases marked other is);
        from_starts = All-weaker (λ n. IsTrue (is_marked marks n)) (λ n. IsTrue (is_marked new n)) (mark_kept marked) starts spread.from_starts;
        from_waiting = All-listed marked (λ n. IsTrue (is_marked new n))
            (All-weaker (Contains rest) (λ n. IsTrue (is_marked new n))
            (λ other at. mark_kept marked other (has_mark marks (rest ++ net ∷ []) other spread.from_waiting (Contains-append_left rest (net ∷ []) other at)))
            rest (All-contains_itself rest))
            (All-marked marked);
        seen = λ other is. ⊎_elim
            (λ was. ⊎_elim
            (λ waits. ⊎_elim
            (λ still. inl (listed_before marked other still))
            (λ last. inr (subst (λ n. HasMarks new (fed_nets design.circuit n)) last (All-marked marked)))
            (Contains-push_cases rest net other waits))
            (λ all. inr (All-weaker (λ n. IsTrue (is_marked marks n)) (λ n. IsTrue (is_marked new n)) (mark_kept marked) (fed_nets design.circuit other) all))
            (spread.seen other was))
            (λ came. inl (listed_new marked other came.0 came.1))
            (mark_cases marked other is);
      }

  -- where none waits, a net is marked if one in its cone is
  reached : (marks : List Bool) → IsSpread design starts marks [] → (net : ℕ) → net < length design.circuit →
      (name : List ℕ) → InCone design.netlist (name_at design.netlist net ∷ []) name → (number : ℕ) → number < length design.circuit →
      name_at design.netlist number ≡ name → IsTrue (is_marked marks number) → IsTrue (is_marked marks net)
  reached marks spread net below _ (start name at) number here same is =
      let own : name_at design.netlist net ≡ name_at design.netlist number = Contains-one (name_at design.netlist net) name at ∙ sym same in
      let equal : net ≡ number =
      same_net design.netlist ok.netlist net number (omega (arith, below, length-circuit design ok)) (omega (arith, here, length-circuit design ok)) own in
      subst (λ n. IsTrue (is_marked marks n)) (sym equal) is
  reached marks spread net below _ (pin from name has before at) number here same is =
      let source = number_of_net design.netlist from has in
      let inside : source.0 < length design.circuit = omega (arith, source.1, length-circuit design ok) in
      let first = Contains-from_map (name_at design.netlist) from.pins name at in
      let pins : (net_at design.netlist source.0).pins ≡ from.pins = ap (λ (n : NetView). n.pins) source.2 in
      let there : Contains (net_at design.netlist source.0).pins first.0 = subst (λ ps. Contains ps first.0) (sym pins) first.1 in
      let first_below = is_below (length design.netlist.nets) (net_at design.netlist source.0).pins first.0 (pins_below design.netlist ok.netlist source.0 source.1) there in
      let equal : first.0 ≡ number =
      same_net design.netlist ok.netlist first.0 number first_below (omega (arith, here, length-circuit design ok)) (first.2 ∙ sym same) in
      let fed : Contains (fed_nets design.circuit number) source.0 =
      fed-from_pin design ok number source.0 inside (subst (Contains (net_at design.netlist source.0).pins) equal there) in
      let marked : IsTrue (is_marked marks source.0) = ⊎_elim
      (λ waits. absurd (omega (arith, waits.1)))
      (λ all. has_mark marks (fed_nets design.circuit number) source.0 all fed)
      (spread.seen number is) in
      reached marks spread net below from.name before source.0 inside (ap (λ (n : NetView). n.name) source.2) marked

  -- so the marks are those of the nets that depend on a start
  pub MarksDependents-spread : (marks : List Bool) → All (λ net. net < length design.circuit) starts → IsSpread design starts marks [] →
      MarksDependents design starts marks
  MarksDependents-spread marks below spread = record {
    size = spread.size;
    each = λ net inside. (
      λ is. (spread.depend net is).1,
      λ depends. reached marks spread net inside (name_at design.netlist depends.origin) depends.inside depends.origin
          (is_below (length design.circuit) starts depends.origin below depends.listed) refl
          (has_mark marks starts depends.origin spread.from_starts depends.listed),
    );
  }
