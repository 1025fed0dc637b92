-- A link as it lies in one word.
--
-- no_cell    the number that stands where there is no cell
-- number_in  the number of a cell that a word says, or none
-- word_of    the word that says it
-- same_word  the word of the number that a word says is that word

use Rattle.std.specs.Prelude.{◌≡◌, ℕ, eqb, if◌then◌else◌, Some, None, Option}
use Rattle.std.proofs.Common.{sym, refl, ⊎_elim}
use Rattle.std.proofs.lemmas.Bool.{eqb-true, cases_Bool}

abbrev pub no_cell : ℕ
no_cell = 18446744073709551615

abbrev pub number_in : ℕ → Option ℕ
number_in word = if eqb word no_cell then None else Some word

abbrev pub word_of : Option ℕ → ℕ
word_of None = no_cell
word_of (Some number) = number

pub same_word : (word : ℕ) → word_of (number_in word) ≡ word
same_word word = ⊎_elim (λ t. rw t (sym (eqb-true word no_cell t))) (λ f. rw f refl) (cases_Bool (eqb word no_cell))
