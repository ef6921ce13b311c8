use Rattle.std.proofs.Common.{◌≡◌, ◌∙◌, ap}
use Rattle.std.specs.List.{list_all, prefix_len}
use Rattle.starlark_lexer.specs.Classes.{is_blank, is_word_byte}
use Rattle.starlark_lexer.specs.Identifier.{is_identifier, unblanked, word_at}
use Rattle.starlark_lexer.proofs.Identifiers.{blanks_boundary, word_boundary, rest_is, word_is, behind_is, word_all, not_blank, not_identifier, is_one_from}
use Rattle.starlark_lexer.proofs.identifier.lex_exactly_one_identifier.Goals as goal

pub range_from-rest-requires : goal.range_from-rest-requires
range_from-rest-requires c = λ _. blanks_boundary c.args.s.now c.blanks.result c.utf8.s (c.blanks.ensures.value ∙ ap (prefix_len is_blank) c.as_bytes.ensures.value)

pub range-word-requires-clause-end_boundary : goal.range-word-requires-clause-end_boundary
range-word-requires-clause-end_boundary c = word_boundary c.range_from-rest.result.now c.word_len-len.result c.range_from-rest.utf8 (c.word_len-len.ensures.value ∙ ap (prefix_len is_word_byte) c.as_bytes-2.ensures.value)

pub is_identifier-requires : goal.is_identifier-requires
is_identifier-requires c =
    let rest : c.range_from-rest.result.now ≡ unblanked c.args.s.now = rest_is c.args.s.now c.as_bytes.result.now c.range_from-rest.result.now c.blanks.result c.as_bytes.ensures.value c.blanks.ensures.value c.range_from-rest.ensures.value in
    let word : c.range-word.result.now ≡ word_at c.args.s.now = word_is c.args.s.now c.range_from-rest.result.now c.as_bytes-2.result.now c.range-word.result.now c.word_len-len.result rest c.as_bytes-2.ensures.value c.word_len-len.ensures.value c.range-word.ensures.value in
    word_all c.args.s.now c.range-word.result.now c.as_bytes-4.result.now word c.as_bytes-4.ensures.value

pub returns-then-not-are_blanks-clause-answer : goal.returns-then-not-are_blanks-clause-answer
returns-then-not-are_blanks-clause-answer c =
    let rest : c.range_from-rest.result.now ≡ unblanked c.args.s.now = rest_is c.args.s.now c.as_bytes.result.now c.range_from-rest.result.now c.blanks.result c.as_bytes.ensures.value c.blanks.ensures.value c.range_from-rest.ensures.value in
    let after = behind_is c.args.s.now c.range_from-rest.result.now c.as_bytes-2.result.now c.as_bytes-3.result.now c.word_len-len.result rest c.as_bytes-2.ensures.value c.as_bytes-3.ensures.value c.word_len-len.ensures.value in
    not_blank c.args.s.now c.are_blanks.result (c.are_blanks.ensures ∙ ap (list_all is_blank) after) c.if-not-are_blanks.true

pub returns-then-not-is_identifier-clause-answer : goal.returns-then-not-is_identifier-clause-answer
returns-then-not-is_identifier-clause-answer c =
    let rest : c.range_from-rest.result.now ≡ unblanked c.args.s.now = rest_is c.args.s.now c.as_bytes.result.now c.range_from-rest.result.now c.blanks.result c.as_bytes.ensures.value c.blanks.ensures.value c.range_from-rest.ensures.value in
    let word : c.range-word.result.now ≡ word_at c.args.s.now = word_is c.args.s.now c.range_from-rest.result.now c.as_bytes-2.result.now c.range-word.result.now c.word_len-len.result rest c.as_bytes-2.ensures.value c.word_len-len.ensures.value c.range-word.ensures.value in
    not_identifier c.args.s.now c.is_identifier.result (c.is_identifier.ensures ∙ ap is_identifier (c.as_bytes-4.ensures.value ∙ word)) c.if-not-is_identifier.true

pub returns-clause-answer : goal.returns-clause-answer
returns-clause-answer c =
    let rest : c.range_from-rest.result.now ≡ unblanked c.args.s.now = rest_is c.args.s.now c.as_bytes.result.now c.range_from-rest.result.now c.blanks.result c.as_bytes.ensures.value c.blanks.ensures.value c.range_from-rest.ensures.value in
    let word : c.range-word.result.now ≡ word_at c.args.s.now = word_is c.args.s.now c.range_from-rest.result.now c.as_bytes-2.result.now c.range-word.result.now c.word_len-len.result rest c.as_bytes-2.ensures.value c.word_len-len.ensures.value c.range-word.ensures.value in
    let after = behind_is c.args.s.now c.range_from-rest.result.now c.as_bytes-2.result.now c.as_bytes-3.result.now c.word_len-len.result rest c.as_bytes-2.ensures.value c.as_bytes-3.ensures.value c.word_len-len.ensures.value in
    record {
      one = is_one_from c.args.s.now c.are_blanks.result c.is_identifier.result (c.are_blanks.ensures ∙ ap (list_all is_blank) after) c.if-not-are_blanks.false (c.is_identifier.ensures ∙ ap is_identifier (c.as_bytes-4.ensures.value ∙ word)) c.if-not-is_identifier.false;
      word = c.in_ok-from_str.ensures.ok ∙ word;
    }
