-- Entries as they are made are allowed.
use Rattle.std.proofs.Common.{ℕ, ◌<◌, List, refl, arith}
use Rattle.std.proofs.lemmas.Bool.{true≢false, false≢true}
use Rattle.fields.specs.declared.objtype.ObjType.TheVariants.{Storage, Stream}
use Rattle.fields.specs.declared.version.Version.{Version}
use Rattle.records.specs.Entries.{fresh, blank, new_root}
use Rattle.records.specs.Allowed.{Nameable, Fit}
use Rattle.records.specs.Laws.{MadeAreAllowed}
use Rattle.records.proofs.NumbersBack.{zeros_small}
use Rattle.records.proofs.ReadAllowed.{root_small, cut_zero}

module _ (v : Version) where
  free_fits : Fit v blank
  free_fits = (
    record { few = omega arith; units = λ i. omega arith; left = omega arith; right = omega arith; child = omega arith; clsid = refl; octets = zeros_small 16; state = omega arith; creation = omega arith; modified = omega arith; start = omega arith; length = omega arith },
    record { utf16 = refl; root = λ h. absurd (false≢true h); other = λ h. refl; left = refl; right = refl; child = refl; childless = λ h. refl; classless = λ h. refl; uncreated = λ h. refl; unmodified = λ h. refl; startless = λ h. refl; lengthless = λ h. refl; room = cut_zero v },
  )

  root_fits : Fit v new_root
  root_fits = (
    record { few = omega arith; units = root_small; left = omega arith; right = omega arith; child = omega arith; clsid = refl; octets = zeros_small 16; state = omega arith; creation = omega arith; modified = omega arith; start = omega arith; length = omega arith },
    record { utf16 = refl; root = λ h. refl; other = λ h. absurd (true≢false h); left = refl; right = refl; child = refl; childless = λ h. refl; classless = λ h. refl; uncreated = λ h. refl; unmodified = λ h. refl; startless = λ h. absurd (false≢true h); lengthless = λ h. refl; room = cut_zero v },
  )

  storage_fits : (us : List ℕ) (t : ℕ) → Nameable us → t < 18446744073709551616 → Fit v (fresh us Storage (record { 0 = t }))
  storage_fits us t n h = (
    record { few = n.few; units = n.units; left = omega arith; right = omega arith; child = omega arith; clsid = refl; octets = zeros_small 16; state = omega arith; creation = h; modified = h; start = omega arith; length = omega arith },
    record { utf16 = n.utf16; root = λ e. absurd (false≢true e); other = λ e. n.allowed; left = refl; right = refl; child = refl; childless = λ e. absurd (false≢true e); classless = λ e. refl; uncreated = λ e. absurd (false≢true e); unmodified = λ e. absurd (false≢true e); startless = λ e. refl; lengthless = λ e. refl; room = cut_zero v },
  )

  stream_fits : (us : List ℕ) → Nameable us → Fit v (fresh us Stream (record { 0 = 0 }))
  stream_fits us n = (
    record { few = n.few; units = n.units; left = omega arith; right = omega arith; child = omega arith; clsid = refl; octets = zeros_small 16; state = omega arith; creation = omega arith; modified = omega arith; start = omega arith; length = omega arith },
    record { utf16 = n.utf16; root = λ e. absurd (false≢true e); other = λ e. n.allowed; left = refl; right = refl; child = refl; childless = λ e. refl; classless = λ e. refl; uncreated = λ e. refl; unmodified = λ e. refl; startless = λ e. absurd (false≢true e); lengthless = λ e. refl; room = cut_zero v },
  )

  pub made : MadeAreAllowed v
  made = record { free = free_fits; root = root_fits; storage = storage_fits; stream = stream_fits }
