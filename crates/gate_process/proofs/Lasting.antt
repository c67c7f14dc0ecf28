-- A process stays the same net's up to the same end while it hears messages, advances and drains.
use Rattle.std.proofs.Common.{◌≡◌, ℕ, ◌∙◌, true, false, length, Result, Ok, Err, ap}
use Rattle.std.specs.Result.{OnOk, OnErr}
use Rattle.cmb_channels.specs.declared.message.Message.{Message}
use Rattle.cmb_channels.proofs.CallerLemmas.{length-update}
use Rattle.gate_process.specs.Knowledge.{Knowledge, told}
use Rattle.gate_process.specs.Step.{ProcessView, running, kept, heard, extended, advanced, drained}
use Rattle.gate_process.proofs.Kept.{length-all_kept}

-- of as many pins and up to the same end as before
pub record Lasting (old new : ProcessView) : Type 0 where
  pub pins : length new.state.received ≡ length old.state.received
  pub end : new.state.end ≡ old.state.end

pub lasts_heard : {E : Type 0} (old new : ProcessView) (place : ℕ) (message : Message) (result : Result (Unit {0}) E) →
    OnOk result (new ≡ running (heard place message old.state)) → OnErr result (new ≡ old) → Lasting old new
lasts_heard old new place message (Ok done) ok err = record {
  pins = ap (λ (view : ProcessView). length view.state.received) ok
      ∙ length-update (λ (known : Knowledge). kept old.state place (told known message)) place old.state.received;
  end = ap (λ (view : ProcessView). view.state.end) ok;
}
lasts_heard old new place message (Err fault) ok err = record {
  pins = ap (λ (view : ProcessView). length view.state.received) err;
  end = ap (λ (view : ProcessView). view.state.end) err;
}

-- where it has not failed
pub lasts_advanced : {A E : Type 0} (old new : ProcessView) (result : Result A E) →
    OnOk result (new ≡ running (advanced old.state)) → OnErr result (new.failed ≡ true) → new.failed ≡ false → Lasting old new
lasts_advanced old new (Ok messages) ok err runs = record {
  pins = ap (λ (view : ProcessView). length view.state.received) ok ∙ length-all_kept (extended old.state) 0 old.state.received;
  end = ap (λ (view : ProcessView). view.state.end) ok;
}
lasts_advanced old new (Err fault) ok err runs = cc

pub lasts_drained : {A E : Type 0} (old new : ProcessView) (bound : ℕ) (result : Result A E) →
    OnOk result (new ≡ running (drained bound old.state)) → OnErr result (new ≡ old) → Lasting old new
lasts_drained old new bound (Ok changes) ok err = record {
  pins = ap (λ (view : ProcessView). length view.state.received) ok;
  end = ap (λ (view : ProcessView). view.state.end) ok;
}
lasts_drained old new bound (Err fault) ok err = record {
  pins = ap (λ (view : ProcessView). length view.state.received) err;
  end = ap (λ (view : ProcessView). view.state.end) err;
}
