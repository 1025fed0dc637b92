use Rattle.std.proofs.Common.{◌≡◌, ℕ, ◌%◌, ◌<◌, ap, ◌∙◌, arith}
use Rattle.std.proofs.lemmas.Grind.{common_steps}
use lib.Bits.{bit_and}
use Rattle.std.proofs.lemmas.Nat.{and_mask}
use Rattle.fields.specs.declared.version.Version.{Version}
use Rattle.fields.specs.declared.version.Version.TheVariants.{V3, V4}
use Rattle.fields.specs.Versions.{length_mask, cut}
use Rattle.records.proofs.reading.Reader.stream_len.Goals as goal

masked : (v : Version) (n m : ℕ) → n < 18446744073709551616 → m ≡ length_mask v → bit_and n m ≡ cut v n
masked V3 n m h e = ap (bit_and n) e ∙ and_mask n 32
masked V4 n m h e = let small : n % 18446744073709551616 ≡ n = omega arith in ap (bit_and n) e ∙ and_mask n 64 ∙ small

pub returns : goal.returns
returns c = masked c.args.self.now.version c.from_le_bytes-length.result c.stream_len_mask.result (omega arith) c.stream_len_mask.ensures ∙ ap (cut c.args.self.now.version) (grind (arith, common_steps))
