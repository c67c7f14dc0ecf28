-- Text that goes out piece by piece.
use Rattle.std.proofs.Common.{◌≡◌, ℕ, List, [], ◌++◌, Option, refl, subst, sym}
use Rattle.std.specs.Io.KnownBytes.{Appends}
use Rattle.std.proofs.KnownBytes.{Appends-nil}
use Rattle.texts.specs.Written.{AppendsPrefix, GoesOut}
use Rattle.texts.proofs.CallerLemmas.{AppendsPrefix-longer, GoesOut-stopped, GoesOut-sent, GoesOut-broken, GoesOut-behind, GoesOut-next}

-- nothing went out yet
pub GoesOut-none : (out : Option (List ℕ)) (text : List ℕ) → GoesOut out out text text
GoesOut-none out text = record { went = []; sent = Appends-nil out; whole = refl }

-- so any text can follow
pub nothing_out : (out : Option (List ℕ)) (text : List ℕ) → AppendsPrefix out out text
nothing_out out text = GoesOut-stopped out out text text (GoesOut-none out text)

-- ---- three pieces of a text

module _ (whole a b c : List ℕ) (is : whole ≡ (a ++ b) ++ c) where
  -- a fault at the first
  pub first_broken : (old new : Option (List ℕ)) → AppendsPrefix old new a → AppendsPrefix old new whole
  first_broken old new fault =
      subst (AppendsPrefix old new) (sym is) (AppendsPrefix-longer old new (a ++ b) c (AppendsPrefix-longer old new a b fault))

  module _ (old mid new : Option (List ℕ)) (waiting : List ℕ) (first : GoesOut old mid a waiting) where
    -- a fault at the second
    pub second_broken : AppendsPrefix mid new (waiting ++ b) → AppendsPrefix old new whole
    second_broken fault =
        subst (AppendsPrefix old new) (sym is)
        (AppendsPrefix-longer old new (a ++ b) c
        (GoesOut-broken old mid new (a ++ b) (waiting ++ b) (GoesOut-behind old mid a waiting b first) fault))

    module _ (left : List ℕ) (second : GoesOut mid new (waiting ++ b) left) where
      two : GoesOut old new (a ++ b) left
      two = GoesOut-next old mid new (a ++ b) (waiting ++ b) left (GoesOut-behind old mid a waiting b first) second

      -- the third is never made
      pub third_missing : AppendsPrefix old new whole
      third_missing = subst (AppendsPrefix old new) (sym is) (AppendsPrefix-longer old new (a ++ b) c (GoesOut-stopped old new (a ++ b) left two))

      module _ (last : Option (List ℕ)) (ready : List ℕ) (made : ready ≡ left ++ c) where
        three : GoesOut old new whole ready
        three = subst (GoesOut old new whole) (sym made) (subst (λ text. GoesOut old new text (left ++ c)) (sym is) (GoesOut-behind old new (a ++ b) left c two))

        -- a fault at all that waits
        pub third_broken : AppendsPrefix new last ready → AppendsPrefix old last whole
        third_broken fault = GoesOut-broken old new last whole ready three fault

        -- all goes out
        pub all_sent : Appends new last ready → Appends old last whole
        all_sent sent = GoesOut-sent old new last whole ready three sent
