-- The causes of a net's value at a tick, in order.
use Rattle.std.specs.Prelude.{ℕ, zero, suc, ◌+◌, ◌<◌, ◌≡◌, ◌==◌, ◌&&◌, if◌then◌else◌, List, [], ◌∷◌, ◌++◌, nat_lt, slice_get, Option, None, Some}
use Rattle.std.specs.Option.{option_map_or}
use Rattle.logic3.specs.declared.value.Value.{Value}
use Rattle.logic3.specs.Value.{is_same}
use Rattle.logic3.specs.Wave.{Wave}
use Rattle.design.specs.Circuit.{Circuit}
use Rattle.design.specs.Equations.{value_of, waves_of}
use Rattle.causes.specs.declared.cause.Cause.{Cause}
use Rattle.causes.specs.declared.cause.Reason.{Reason}
use Rattle.causes.specs.declared.cause.Reason.TheVariants.{Pin, Swings}
use Rattle.causes.specs.Deciding.{since}
use Rattle.causes.specs.Swings.{unless_swing}
use Rattle.causes.specs.Reasons.{reason_of, source_of}

-- waveforms of all nets at least up to a tick
pub record ShowUpTo (circuit : Circuit) (tick : ℕ) (waves : List Wave) : Type 0 where
  pub to : ℕ
  pub past : tick < to
  pub same : waves ≡ waves_of circuit to

-- the tick at which a net took a value, by the last of some causes that has the two, else the tick before
abbrev pub taken_again : Option ℕ → List Cause → ℕ → Value → Option ℕ
taken_again before [] net value = before
taken_again before (cause ∷ causes) net value =
    taken_again (if (cause.net == net) && is_same cause.value value then Some cause.since else before) causes net value

-- the tick at which a value is explained: that of the change to it. A value since tick 0 has no change: the tick itself, and 0 if an
-- earlier cause has the net with the value since tick 0 too
abbrev pub kept_at : ℕ → ℕ → ℕ
kept_at tick later = if later == 0 then 0 else tick

abbrev pub explained_at : ℕ → ℕ → Option ℕ → ℕ
explained_at tick since again = if since == 0 then option_map_or (kept_at tick) again tick else since

-- why a net shows its value at a tick, by the tick since which it does, and that at which it took it again
abbrev pub cause_from : Circuit → ℕ → ℕ → ℕ → Option ℕ → Cause
cause_from circuit net tick since again = record {
  net = net;
  tick = tick;
  value = value_of circuit net tick;
  since = since;
  at = explained_at tick since again;
  reason =
      unless_swing (value_of circuit net) (explained_at tick since again) again (reason_of circuit net (explained_at tick since again));
}

-- why it does, after other causes
abbrev pub cause_behind : Circuit → List Cause → ℕ → ℕ → Cause
cause_behind circuit causes net tick =
    cause_from circuit net tick (since (value_of circuit net) tick) (taken_again None causes net (value_of circuit net tick))

-- where a cause leads: the source of the pin that decides, at the tick that the pin shows, or where a swing began
abbrev pub leads_by : Circuit → Reason → ℕ → ℕ → Option (ℕ × ℕ)
leads_by circuit (Pin place) net tick = source_of (slice_get circuit net) tick place
leads_by circuit (Swings start period) net tick = if nat_lt start tick then Some (net, start) else None
leads_by circuit _ net tick = None

abbrev pub leads_to : Circuit → Cause → Option (ℕ × ℕ)
leads_to circuit cause = leads_by circuit cause.reason cause.net cause.at

-- causes in order, up to a number of them, after others
abbrev pub causes_within : Circuit → ℕ → List Cause → Option (ℕ × ℕ) → List Cause
causes_within circuit zero causes at = []
causes_within circuit (suc count) causes None = []
causes_within circuit (suc count) causes (Some (net, tick)) =
    let cause = cause_behind circuit causes net tick in
    cause ∷ causes_within circuit count (causes ++ cause ∷ []) (leads_to circuit cause)

-- the causes of a net's value at a tick, each at an earlier tick than the one before it
unfoldable pub causes_of : Circuit → ℕ → ℕ → List Cause
causes_of circuit net tick = causes_within circuit (tick + 1) [] (Some (net, tick))
