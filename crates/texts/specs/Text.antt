-- What the programs write, byte by byte: the lines and words of "What is answered". Rules 8.2 to 8.4. Assumes nothing.
use Rattle.std.specs.Prelude.{ℕ, zero, suc, pred, cond, List, [], ◌∷◌, ◌++◌, eqb}
use Prim.Native.Char.{code}
use Prim.Native.String.{String, [] as none, ◌∷◌ as ◌then◌}
use Rattle.model.specs.declared.Answer.{Answer}
use Rattle.model.specs.Limits.{not_begun}
use Rattle.model.specs.Sheet.{word, nodes, stream_count, running_number}
use Rattle.digits.specs.Decimal.{decimal}

-- The bytes of a text in ASCII.
abbrev pub ascii : String → List ℕ
ascii none = []
ascii (c then s) = code c ∷ ascii s

-- Some words and a number after them.
abbrev pub labelled : String → ℕ → List ℕ
labelled label n = ascii label ++ decimal n

-- The lines of 1, of 2, and so on up to n.
unfoldable pub lines_to : (ℕ → List ℕ) → ℕ → List ℕ
lines_to line zero = []
lines_to line (suc n) = lines_to line n ++ line (suc n)

-- "A refusal writes one line only, as `refused 7 at 1 2`."
unfoldable pub refusal_text : Answer → List ℕ
refusal_text a = labelled "refused " a.number ++ labelled " at " a.second ++ labelled " " a.third ++ ascii "\n"

-- The line of a stream: its node, its number there, its listed wait.
unfoldable pub wait_line : ℕ → ℕ → ℕ → List ℕ
wait_line node stream wait = decimal node ++ labelled " " stream ++ labelled " " wait ++ ascii "\n"

-- The lines of node k. The waits stand "in sheet order", so a stream's has the place of its running number.
unfoldable pub node_lines : List ℕ → List ℕ → ℕ → List ℕ
node_lines s waits k = lines_to (λ j. wait_line k j (word waits (pred (running_number s k j)))) (stream_count s k)

-- The table of an admitted sheet, and the line under it.
unfoldable pub wait_table : List ℕ → List ℕ → ℕ → List ℕ
wait_table s waits streams = ascii "node stream wait\n" ++ lines_to (node_lines s waits) (nodes s) ++ labelled "admitted " streams ++ ascii "\n"

-- What the admit program writes for a sheet, once admit has answered and left the listed waits.
unfoldable pub admit_text : List ℕ → List ℕ → Answer → List ℕ
admit_text s waits a = cond (eqb a.number 0) (wait_table s waits a.second) (refusal_text a)

-- A begin tick after its release's number: "A message not begun shows `-`".
unfoldable pub begin_text : ℕ → List ℕ
begin_text begin = cond (eqb begin not_begun) (ascii " -\n") (labelled " " begin ++ ascii "\n")

-- The line of a release, counted from 1.
unfoldable pub begin_line : List ℕ → ℕ → List ℕ
begin_line begins i = decimal i ++ begin_text (word begins (pred i))

-- The table of a replay of so many releases, and the line under it.
unfoldable pub begin_table : List ℕ → ℕ → ℕ → ℕ → List ℕ
begin_table begins count turns next =
    ascii "release begin\n" ++ lines_to (begin_line begins) count ++ labelled "turns " turns ++ labelled " next " next ++ ascii "\n"

-- What the replay program writes for a log of so many releases, once the replay has answered and left the begin ticks.
unfoldable pub replay_text : List ℕ → ℕ → Answer → List ℕ
replay_text begins count a = cond (eqb a.number 0) (begin_table begins count a.second a.third) (refusal_text a)
