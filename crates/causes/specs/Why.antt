-- The conditions on causes, one by one.
use Rattle.std.specs.Prelude.{◌≡◌, ◌<◌, ℕ, suc, List, length, take, slice_get, None, Some, option_map}
use Rattle.design.specs.Circuit.{Circuit}
use Rattle.causes.specs.declared.cause.Cause.{Cause}
use Rattle.causes.specs.Causes.{cause_behind, leads_to}

-- the net and the tick of a cause
abbrev pub moment_of : Cause → ℕ × ℕ
moment_of cause = (cause.net, cause.tick)

-- causes of a net's value at a tick: the first is of the net at the tick, each is the cause after those before it, each leads to
-- the next one, which is of an earlier tick, and the last one leads to none
pub record IsWhy (circuit : Circuit) (net tick : ℕ) (causes : List Cause) : Type 0 where
  pub first : option_map moment_of (slice_get causes 0) ≡ Some (net, tick)
  pub each : (place : ℕ) (cause : Cause) → slice_get causes place ≡ Some cause →
      cause ≡ cause_behind circuit (take place causes) cause.net cause.tick
  pub leads : (place : ℕ) (cause next : Cause) → slice_get causes place ≡ Some cause → slice_get causes (suc place) ≡ Some next →
      leads_to circuit cause ≡ Some (moment_of next)
  pub earlier : (place : ℕ) (cause next : Cause) → slice_get causes place ≡ Some cause → slice_get causes (suc place) ≡ Some next →
      next.tick < cause.tick
  pub ends : (place : ℕ) (cause : Cause) → slice_get causes place ≡ Some cause → length causes ≡ suc place → leads_to circuit cause ≡ None
