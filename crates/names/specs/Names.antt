-- Names: up to 31 units, counted, in place.
--
--   forbidden u    u is one of / \ : !
--   allowed us     none of the units is forbidden
--   name_number e  the number of a refusal
use Rattle.std.specs.Prelude.{ℕ, Bool, not, ◌||◌, List, ◌==◌}
use Rattle.std.specs.List.{list_all}
use Rattle.names.specs.declared.name.NameError.{NameError}
use Rattle.names.specs.declared.name.NameError.TheVariants.{TooLong, Forbidden}

abbrev pub forbidden : ℕ → Bool
forbidden u = u == 47 || (u == 92 || (u == 58 || u == 33))

abbrev pub allowed : List ℕ → Bool
allowed us = list_all (λ u. not (forbidden u)) us

abbrev pub name_number : NameError → ℕ
name_number TooLong = 12
name_number Forbidden = 13
