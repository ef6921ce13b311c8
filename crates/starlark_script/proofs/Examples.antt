-- The definitions of scripts at some literals.
use Rattle.std.proofs.Common.{◌≡◌, [], refl, Some, None}
use Rattle.std.specs.Prelude.{codes}
use Rattle.starlark_parts.specs.Kept.{inserts, replaces, removes, moves}
use Rattle.starlark_script.specs.Script.{front, no_command, asking, editing, command_of, number_of}

insert_with_bytes : front (codes "insert 0 6\nx = 1\noutline\n") ≡ asking (editing (inserts 0 (codes "x = 1\n"))) (codes "outline\n")
unfolding front
insert_with_bytes = refl

two_spaces : front (codes "insert  0 1\n") ≡ no_command
unfolding front
two_spaces = refl

too_few_bytes : front (codes "insert 0 9\nx = 1\n") ≡ no_command
unfolding front
too_few_bytes = refl

no_line_end : front (codes "outline") ≡ no_command
unfolding front
no_line_end = refl

greatest_number : number_of (codes "4294967295") ≡ Some 4294967295
greatest_number = refl

too_great_a_number : number_of (codes "4294967296") ≡ None
too_great_a_number = refl

eleven_digits : number_of (codes "00000000001") ≡ None
eleven_digits = refl

replace_with_bytes : front (codes "replace 7 3\n1=\nremove 0\n") ≡ asking (editing (replaces 7 (codes "1=\n"))) (codes "remove 0\n")
unfolding front
replace_with_bytes = refl

remove_one : front (codes "remove 10\nx") ≡ asking (editing (removes 10)) (codes "x")
unfolding front
remove_one = refl

move_one : front (codes "move 0 1\n") ≡ asking (editing (moves 0 1)) []
unfolding front
move_one = refl

a_word_too_many : command_of (codes "remove 0 1") ≡ None
a_word_too_many = refl

a_word_too_few : command_of (codes "move 0") ≡ None
a_word_too_few = refl
