-- The walk from nets back over their pins.
use Rattle.std.proofs.Common.{◌≡◌, ℕ, ◌<◌, Bool, false, List, [], ◌∷◌, ◌++◌, length, map, replicate, refl, sym, ap, ◌∙◌, subst, arith, All, Contains, ◌⊎◌, inl, inr, IsTrue, true≢false, ⊎_elim}
use Rattle.std.proofs.lemmas.List.{length-replicate}
use Rattle.std.proofs.lemmas.List.Elements.{All-nil, All-contains_itself, Contains-get_or, All-weaker, All-contains, Contains-append_left, Contains-push, Contains-push_cases}
use Rattle.netlist.specs.Netlist.{NetView, NetlistView, IsNetlist, net_at, name_at}
use Rattle.netlist.proofs.CallerLemmas.{no_net}
use Rattle.fanin_cone.specs.Cone.{InCone, start, pin, IsConeOf}
use Rattle.fanin_cone.specs.Walk.{is_marked, Marks, MarksCone, NumbersMarked}
use Rattle.fanin_cone.proofs.Listed.{Contains-map, Contains-from_map}
use Rattle.fanin_cone.proofs.NetNames.{same_net, number_of_net, pins_below}
use Rattle.fanin_cone.proofs.Marking.{no_mark, mark_kept, All-marked, mark_cases, All-listed, listed_before, listed_new}

abbrev pub HasMarks : List Bool → List ℕ → Type 0
HasMarks marks nets = All (λ net. IsTrue (is_marked marks net)) nets

-- the marked nets are in the cone, and the pins of each are marked, unless the net waits
pub record IsWalk (netlist : NetlistView) (starts : List ℕ) (marks : List Bool) (waiting : List ℕ) : Type 0 where
  pub size : length marks ≡ length netlist.nets
  pub in_cone : (net : ℕ) → IsTrue (is_marked marks net) →
      (net < length netlist.nets) × InCone netlist (map (name_at netlist) starts) (name_at netlist net)
  pub from_starts : HasMarks marks starts
  pub from_waiting : HasMarks marks waiting
  pub seen : (net : ℕ) → IsTrue (is_marked marks net) → Contains waiting net ⊎ HasMarks marks (net_at netlist net).pins

pub has_mark : (marks : List Bool) (nets : List ℕ) (net : ℕ) → HasMarks marks nets → Contains nets net → IsTrue (is_marked marks net)
has_mark marks nets net all at = All-contains (λ n. IsTrue (is_marked marks n)) nets net all at

pub is_below : (bound : ℕ) (nets : List ℕ) (net : ℕ) → All (λ n. n < bound) nets → Contains nets net → net < bound
is_below bound nets net all at = All-contains (λ n. n < bound) nets net all at

module _ (netlist : NetlistView) (starts : List ℕ) where
  -- the starts alone
  pub IsWalk-starts : (marks : List Bool) (waiting : List ℕ) → All (λ net. net < length netlist.nets) starts →
      Marks starts (replicate (length netlist.nets) false) marks [] waiting → IsWalk netlist starts marks waiting
  IsWalk-starts marks waiting below marked = record {
    size = marked.size ∙ length-replicate (length netlist.nets) false;
    in_cone = λ net is. ⊎_elim
        (λ was. absurd (true≢false (sym was ∙ unmarked net)))
        (λ new. (is_below (length netlist.nets) starts net below new.1, start (name_at netlist net) (Contains-map (name_at netlist) starts net new.1)))
        (mark_cases marked net is);
    from_starts = All-marked marked;
    from_waiting = All-listed marked (λ n. IsTrue (is_marked marks n)) (All-nil (λ n. IsTrue (is_marked marks n))) (All-marked marked);
    seen = λ net is. ⊎_elim
        (λ was. absurd (true≢false (sym was ∙ unmarked net)))
        (λ new. inl (listed_new marked net new.0 new.1))
        (mark_cases marked net is);
  }
    where
      unmarked : (net : ℕ) → is_marked (replicate (length netlist.nets) false) net ≡ false
      unmarked = no_mark (length netlist.nets)

  -- the pins of the net that waited last
  pub IsWalk-pins : (marks new : List Bool) (rest waiting : List ℕ) (net : ℕ) → IsNetlist netlist →
      IsWalk netlist starts marks (rest ++ net ∷ []) → Marks (net_at netlist net).pins marks new rest waiting → IsWalk netlist starts new waiting
  IsWalk-pins marks new rest waiting net ok walk marked =
      let here = walk.in_cone net (has_mark marks (rest ++ net ∷ []) net walk.from_waiting (Contains-push rest net)) in
      record {
        size = marked.size ∙ walk.size;
        in_cone = λ other is. ⊎_elim
            (walk.in_cone other)
            (λ came. (
              is_below (length netlist.nets) (net_at netlist net).pins other (pins_below netlist ok net here.0) came.1,
              pin (net_at netlist net) (name_at netlist other) (Contains-get_or netlist.nets net no_net here.0) here.1 (Contains-map (name_at netlist) (net_at netlist net).pins other came.1),
            ))
            (mark_cases marked other is);
        from_starts = All-weaker (λ n. IsTrue (is_marked marks n)) (λ n. IsTrue (is_marked new n)) (mark_kept marked) starts walk.from_starts;
        from_waiting = All-listed marked (λ n. IsTrue (is_marked new n))
            (All-weaker (Contains rest) (λ n. IsTrue (is_marked new n))
            (λ other at. mark_kept marked other (has_mark marks (rest ++ net ∷ []) other walk.from_waiting (Contains-append_left rest (net ∷ []) other at)))
            rest (All-contains_itself rest))
            (All-marked marked);
        seen = λ other is. ⊎_elim
            (λ was. ⊎_elim
            (λ waits. ⊎_elim
            (λ still. inl (listed_before marked other still))
            (λ last. inr (subst (λ n. HasMarks new (net_at netlist n).pins) last (All-marked marked)))
            (Contains-push_cases rest net other waits))
            (λ all. inr (All-weaker (λ n. IsTrue (is_marked marks n)) (λ n. IsTrue (is_marked new n)) (mark_kept marked) (net_at netlist other).pins all))
            (walk.seen other was))
            (λ came. inl (listed_new marked other came.0 came.1))
            (mark_cases marked other is);
      }

  -- where none waits the marks are those of the cone
  pub MarksCone-walk : (marks : List Bool) → IsNetlist netlist → All (λ net. net < length netlist.nets) starts → IsWalk netlist starts marks [] →
      MarksCone netlist (map (name_at netlist) starts) marks
  MarksCone-walk marks ok below walk net = (walk.in_cone net, λ is. reached (name_at netlist net) is.1 net is.0 refl)
    where
      reached : (name : List ℕ) → InCone netlist (map (name_at netlist) starts) name → (number : ℕ) → number < length netlist.nets →
          name_at netlist number ≡ name → IsTrue (is_marked marks number)
      reached _ (start name at) number here same =
          let first = Contains-from_map (name_at netlist) starts name at in
          let equal = same_net netlist ok first.0 number (is_below (length netlist.nets) starts first.0 below first.1) here (first.2 ∙ sym same) in
          subst (λ n. IsTrue (is_marked marks n)) equal (has_mark marks starts first.0 walk.from_starts first.1)
      reached _ (pin from name has before at) number here same =
          let source = number_of_net netlist from has in
          let was = reached from.name before source.0 source.1 (ap (λ (n : NetView). n.name) source.2) in
          let first = Contains-from_map (name_at netlist) from.pins name at in
          let below_pins = pins_below netlist ok source.0 source.1 in
          let pins : (net_at netlist source.0).pins ≡ from.pins = ap (λ (n : NetView). n.pins) source.2 in
          let there : Contains (net_at netlist source.0).pins first.0 = subst (λ pins. Contains pins first.0) (sym pins) first.1 in
          let equal = same_net netlist ok first.0 number (is_below (length netlist.nets) (net_at netlist source.0).pins first.0 below_pins there) here (first.2 ∙ sym same) in
          ⊎_elim
          (λ waits. absurd (omega (arith, waits.1)))
          (λ all. subst (λ n. IsTrue (is_marked marks n)) equal (has_mark marks (net_at netlist source.0).pins first.0 all there))
          (walk.seen source.0 was)

-- the numbers of those marks
pub IsConeOf-marked : (netlist : NetlistView) (names : List (List ℕ)) (marks : List Bool) (numbers : List ℕ) →
    MarksCone netlist names marks → NumbersMarked marks numbers → IsConeOf netlist names numbers
IsConeOf-marked netlist names marks numbers cone numbered = record {
  rising = numbered.rising;
  nets = λ net. (λ at. (cone net).0 ((numbered.marked net).0 at), λ is. (numbered.marked net).1 ((cone net).1 is));
}
