use Rattle.std.proofs.Common.{rules, ◌≡◌, ℕ, ◌+◌, ◌<◌, ◌≤◌, length, arith, subst}
use Rattle.std.proofs.lemmas.List.{length-map}
use Rattle.std.proofs.lemmas.Option.{slice_get_within}
use Rattle.vkb_tool.specs.Words.{IsMisplaced, items_of}
use Rattle.vkb_tool.proofs.HeaderWordsLemmas.{all_options, header_3, header_words, no_api, no_option_at, no_registry}
use Rattle.vkb_tool.proofs.words.header.read_header.Goals as goal

pub returns-in_default-clause-misplaced : goal.returns-in_default-clause-misplaced
returns-in_default-clause-misplaced c = no_registry (items_of c.args.words.now) c.requires.first c.in_default.ensures.none

pub returns-in_default-api_name-clause-misplaced : goal.returns-in_default-api_name-clause-misplaced
returns-in_default-api_name-clause-misplaced c = no_api (items_of c.args.words.now) c.in-Some.registry.now c.requires.first c.in-Some.ensures.named c.in_default-api_name.ensures.none

pub option_words-requires : goal.option_words-requires
option_words-requires c =
    let within = slice_get_within (items_of c.args.words.now) 2 c.in-Some-api_name.api.now c.in-Some-api_name.ensures.named.0 in
    omega (arith, length-map c.args.words.now (λ word. word.items))

pub returns-then-end-words-clause-misplaced : goal.returns-then-end-words-clause-misplaced
returns-then-end-words-clause-misplaced c =
    let words = items_of c.args.words.now in
    let registry = c.in-Some.registry.now in
    let api = c.in-Some-api_name.api.now in
    let file = c.in-Some.ensures.named in
    let named = c.in-Some-api_name.ensures.named in
    let names = c.in_ok-names.names.items in
    let more : 3 + length names < length words = omega (arith, length-map c.args.words.now (λ word. word.items)) in
    let counted : length names ≡ c.len-end.result = search rules in
    subst (λ (n : ℕ). IsMisplaced words (3 + n + 1)) counted
    (no_option_at words registry api names (file.0.1, file.1, named.1) (header_3 words registry api c.requires.first file.0.0 named.0) c.in_ok-names.ensures more)

pub returns-clause-request : goal.returns-clause-request
returns-clause-request c =
    let words = items_of c.args.words.now in
    let registry = c.in-Some.registry.now in
    let api = c.in-Some-api_name.api.now in
    let file = c.in-Some.ensures.named in
    let named = c.in-Some-api_name.ensures.named in
    let names = c.in_ok-names.names.items in
    let leads = c.in_ok-names.ensures in
    let front = header_3 words registry api c.requires.first file.0.0 named.0 in
    let whole : length words ≤ 3 + length names = omega (arith, length-map c.args.words.now (λ word. word.items)) in
    let all : words ≡ header_words registry api names = all_options words registry api names front leads whole in
    let file_is : c.from_string.result ≡ registry = search rules in
    let api_is : c.in_ok-api.api ≡ api = search rules in
    rw (file_is, api_is, c.from_vec.ensures) ((file.0.1, file.1, named.1), leads.names_are, all)
