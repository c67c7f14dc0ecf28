-- Names of nets.
use Rattle.std.specs.Prelude.{◌≢◌, ℕ, ◌<◌, ◌≤◌, ◌==◌, ◌&&◌, not, Bool, IsTrue, List, length, All, codes, slice_index}
use Rattle.std.specs.List.{list_any}
use Rattle.std.specs.Char.{is_ascii_graphic}

-- a byte of a name: printable, and neither a mark nor the beginning of a comment
abbrev pub is_name_byte : ℕ → Bool
is_name_byte byte = is_ascii_graphic byte && not (list_any (λ mark. mark == byte) (codes "(),=#"))

-- 1 to 255 such bytes, the first not '$'
pub record IsName (name : List ℕ) : Type 0 where
  pub some : 0 < length name
  pub short : length name ≤ 255
  pub bytes : All (λ byte. IsTrue (is_name_byte byte)) name
  pub no_dollar : slice_index name 0 ≢ 36
