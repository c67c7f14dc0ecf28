use Rattle.std.proofs.Common.{sym, subst, ◌∙◌}
use Rattle.std.specs.Option.{IfSome}
use Rattle.logic3.specs.Wave.{value_at, IsBefore}
use Rattle.wave_diff.specs.Compared.{IsCompared}
use Rattle.wave_diff.proofs.FirstDifference.{apart_values, first_difference-None, first_difference-Some}
use Rattle.wave_diff.proofs.difference.first_difference.Goals as goal

pub returns-then-differ : goal.returns-then-differ
returns-then-differ c =
    sym (first_difference-Some (value_at c.args.first.now) (value_at c.args.second.now) c.args.compared _ (record {
      compared = subst (λ next. IfSome next (IsCompared c.args.compared)) c.in-Some.is c.loop-next.invariant.next;
      of_first = c.value_at-shown.ensures;
      of_second = c.value_at-other.ensures;
      apart = apart_values c.value_at-shown.result c.value_at-other.result (sym c.differ.ensures ∙ c.if-differ.true);
      same_before = λ at is before. c.loop-next.invariant.passed at is (subst (IsBefore at) (sym c.in-Some.is) before);
    }))

pub returns : goal.returns
returns c =
    sym (first_difference-None (value_at c.args.first.now) (value_at c.args.second.now) c.args.compared
    (λ at is. c.loop-next.invariant.passed at is (subst (IsBefore at) (sym c.in_default.is) tt)))
