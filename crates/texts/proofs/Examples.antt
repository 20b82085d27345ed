-- The texts that document 01 has, word for word, and the largest number. Assumes nothing.
use mathlib.Core.Path.{◌≡◌, refl}
use mathlib.Core.List.{[], ◌∷◌}
use Rattle.model.specs.Limits.{not_begun}
use Rattle.model.specs.Refusal.{success, refuse}
use Rattle.digits.specs.Decimal.{digits, decimal}
use Rattle.texts.specs.Text.{ascii, lines_to, refusal_text, wait_line, node_lines, wait_table, admit_text, begin_text, begin_line, begin_table, replay_text}
use Rattle.theory.specs.Sum.{sum, up_to}
use Rattle.model.specs.Bench.{sheet_a}

largest : decimal not_begun ≡ ascii "4294967295"
unfolding decimal digits
largest = refl

p1 : admit_text (sheet_a 40 40 60) (16 ∷ 33 ∷ 16 ∷ []) (success 3 17) ≡ ascii "node stream wait\n1 1 16\n1 2 33\n2 1 16\nadmitted 3\n"
unfolding sheet_a decimal digits lines_to sum up_to wait_line node_lines wait_table admit_text
p1 = refl

late : admit_text (sheet_a 40 40 60) [] (refuse 7 1 2) ≡ ascii "refused 7 at 1 2\n"
unfolding decimal digits refusal_text admit_text
late = refl

p9 : replay_text (0 ∷ 12 ∷ 6 ∷ []) 3 (success 25 40) ≡ ascii "release begin\n1 0\n2 12\n3 6\nturns 25 next 40\n"
unfolding decimal digits lines_to begin_text begin_line begin_table replay_text
p9 = refl

p10 : replay_text (0 ∷ not_begun ∷ 6 ∷ []) 3 (success 2 12) ≡ ascii "release begin\n1 0\n2 -\n3 6\nturns 2 next 12\n"
unfolding decimal digits lines_to begin_text begin_line begin_table replay_text
p10 = refl
