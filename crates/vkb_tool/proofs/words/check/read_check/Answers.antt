use Rattle.std.proofs.Common.{rules, List, ℕ, [], ◌++◌, ◌≡◌, Option, take, map, codes, ap, ◌∙◌, arith}
use Rattle.std.proofs.lemmas.List.{length-map}
use Rattle.std.proofs.lemmas.Option.{slice_get_within}
use Rattle.std.proofs.lemmas.Result.{err_from_is_err_and}
use Rattle.vkb_tool.specs.declared.words.WordFault.{WordFault}
use Rattle.vkb_tool.specs.declared.words.WordFault.TheVariants.{Usage, Memory}
use Rattle.vkb_tool.specs.Reading.{IsAttributeFault, registry_by}
use Rattle.vkb_tool.specs.Words.{IsApiOf, IsFileName, IsWordFault, attribute_word, items_of}
use Rattle.vkb_tool.proofs.WordsLemmas.{check_asks, check_words, front_4, goes_back, misplaced_fourth, misplaced_second, misplaced_third, no_attribute_at}
use Rattle.vkb_tool.proofs.words.check.read_check.Goals as goal

pub returns-in_default-clause-misplaced : goal.returns-in_default-clause-misplaced
returns-in_default-clause-misplaced c = misplaced_second (codes "check") check_asks (items_of c.args.words.now) c.requires.first c.in_default.ensures.none

pub returns-in_default-file_name-clause-misplaced : goal.returns-in_default-file_name-clause-misplaced
returns-in_default-file_name-clause-misplaced c =
    misplaced_third (codes "check") check_asks (items_of c.args.words.now) c.requires.first c.in-Some.registry.now c.in-Some.ensures.named c.in_default-file_name.ensures.none

pub returns-in_default-api_of-clause-misplaced : goal.returns-in_default-api_of-clause-misplaced
returns-in_default-api_of-clause-misplaced c =
    misplaced_fourth (codes "check") check_asks (items_of c.args.words.now) c.requires.first c.in-Some.registry.now c.in-Some-file_name.root.now c.in-Some.ensures.named c.in-Some-file_name.ensures.named c.in_default-api_of.ensures.none

pub attributes-requires-clause-enough : goal.attributes-requires-clause-enough
attributes-requires-clause-enough c =
    let within = slice_get_within (items_of c.args.words.now) 3 c.in-Some-api_of.api.now c.in-Some-api_of.ensures.goes.0 in
    omega (arith, length-map c.args.words.now (λ word. word.items))

-- what is told of words whose attributes weren't read
misplaced_attribute : (words : List (List ℕ)) (registry : Option (List ℕ)) (root api : List ℕ) (fault : WordFault) → IsApiOf registry api → IsFileName root → take 4 words ≡ check_words registry root api []
    → IsAttributeFault 4 words fault → IsWordFault words fault
misplaced_attribute words registry root api (Usage position) goes named front wrong = no_attribute_at words registry root api position goes named front wrong
misplaced_attribute words registry root api Memory goes named front wrong = tt

pub returns-in_err-always-clause-misplaced : goal.returns-in_err-always-clause-misplaced
returns-in_err-always-clause-misplaced c =
    let words = items_of c.args.words.now in
    let registry = c.in-Some.registry.now in
    let root = c.in-Some-file_name.root.now in
    let api = c.in-Some-api_of.api.now in
    let file = c.in-Some.ensures.named in
    let named = c.in-Some-file_name.ensures.named in
    let goes = c.in-Some-api_of.ensures.goes in
    let p = err_from_is_err_and c.from_residual.result c.from_residual.ensures.1 in
    rw (p.1, p.2)
    (misplaced_attribute words (registry_by registry) root api c.in_err-always.field-0.0 (goes_back registry api file.1 goes.1) named.1
    (front_4 (codes "check") words c.requires.first registry root api file.0 named.0 goes.0) c.in_err-always.ensures.wrong)

pub returns-clause-request : goal.returns-clause-request
returns-clause-request c =
    let words = items_of c.args.words.now in
    let registry = c.in-Some.registry.now in
    let root = c.in-Some-file_name.root.now in
    let api = c.in-Some-api_of.api.now in
    let file = c.in-Some.ensures.named in
    let named = c.in-Some-file_name.ensures.named in
    let goes = c.in-Some-api_of.ensures.goes in
    let names = c.in_ok-always.always.items in
    let set = c.in_ok-always.ensures.read in
    let front = front_4 (codes "check") words c.requires.first registry root api file.0 named.0 goes.0 in
    let all : words ≡ check_words (registry_by registry) root api names = set.words_are ∙ ap (λ (w : List (List ℕ)). w ++ map attribute_word names) front in
    let root_is : c.from_string.result ≡ root = search rules in
    let api_is : c.in_ok-api.api ≡ api = search rules in
    let file_is : c.in_ok-registry_file.field-0 ≡ registry_by registry = c.in_ok-registry_file.ensures.read in
    rw (root_is, api_is, file_is, c.from_vec.ensures) (goes_back registry api file.1 goes.1, named.1, set.names_are, all)
