use Rattle.std.proofs.Common.{rules, List, ℕ, [], ◌+◌, ◌++◌, ◌≡◌, Option, length, take, map, codes, arith, subst}
use Rattle.std.proofs.lemmas.List.{length-map}
use Rattle.std.proofs.lemmas.Option.{slice_get_within}
use Rattle.std.proofs.lemmas.Result.{err_from_is_err_and}
use Rattle.vkb_tool.specs.declared.words.WordFault.{WordFault}
use Rattle.vkb_tool.specs.declared.words.WordFault.TheVariants.{Usage, Memory}
use Rattle.vkb_tool.specs.Reading.{IsAttributeFault, LeadsOptions, registry_by}
use Rattle.vkb_tool.specs.Words.{IsApiOf, IsFileName, IsWordFault, attribute_word, items_of}
use Rattle.vkb_tool.proofs.BuildWordsLemmas.{all_set, build_asks, build_words, no_set_at}
use Rattle.vkb_tool.proofs.WordsLemmas.{document_words, front_4, goes_back, misplaced_fourth, misplaced_second, misplaced_third}
use Rattle.vkb_tool.proofs.words.build.read_build.Goals as goal

pub returns-in_default-clause-misplaced : goal.returns-in_default-clause-misplaced
returns-in_default-clause-misplaced c = misplaced_second (codes "build") build_asks (items_of c.args.words.now) c.requires.first c.in_default.ensures.none

pub returns-in_default-file_name-clause-misplaced : goal.returns-in_default-file_name-clause-misplaced
returns-in_default-file_name-clause-misplaced c =
    misplaced_third (codes "build") build_asks (items_of c.args.words.now) c.requires.first c.in-Some.registry.now c.in-Some.ensures.named c.in_default-file_name.ensures.none

pub returns-in_default-api_of-clause-misplaced : goal.returns-in_default-api_of-clause-misplaced
returns-in_default-api_of-clause-misplaced c =
    misplaced_fourth (codes "build") build_asks (items_of c.args.words.now) c.requires.first c.in-Some.registry.now c.in-Some-file_name.root.now c.in-Some.ensures.named c.in-Some-file_name.ensures.named c.in_default-api_of.ensures.none

pub option_words-requires : goal.option_words-requires
option_words-requires c =
    let within = slice_get_within (items_of c.args.words.now) 3 c.in-Some-api_of.api.now c.in-Some-api_of.ensures.goes.0 in
    omega (arith, length-map c.args.words.now (λ word. word.items))

pub attributes-requires-clause-enough : goal.attributes-requires-clause-enough
attributes-requires-clause-enough c =
    let within = c.in_ok-names.ensures.within in
    omega (arith, length-map c.args.words.now (λ word. word.items))

-- what is told of words whose attributes weren't read
misplaced_attribute : (words : List (List ℕ)) (registry : Option (List ℕ)) (root api : List ℕ) (names : List (List ℕ)) (fault : WordFault) → IsApiOf registry api → IsFileName root
    → take 4 words ≡ document_words (codes "build") registry root api [] → LeadsOptions 4 words names → IsAttributeFault (4 + length names) words fault → IsWordFault words fault
misplaced_attribute words registry root api names (Usage position) goes named front leads wrong = no_set_at words registry root api names position goes named front leads wrong
misplaced_attribute words registry root api names Memory goes named front leads wrong = tt

pub returns-in_err-always-clause-misplaced : goal.returns-in_err-always-clause-misplaced
returns-in_err-always-clause-misplaced c =
    let words = items_of c.args.words.now in
    let registry = c.in-Some.registry.now in
    let root = c.in-Some-file_name.root.now in
    let api = c.in-Some-api_of.api.now in
    let file = c.in-Some.ensures.named in
    let named = c.in-Some-file_name.ensures.named in
    let goes = c.in-Some-api_of.ensures.goes in
    let front = front_4 (codes "build") words c.requires.first registry root api file.0 named.0 goes.0 in
    let p = err_from_is_err_and c.from_residual-in_err-always.result c.from_residual-in_err-always.ensures.1 in
    let counted : c.len.result ≡ length c.in_ok-names.names.items = search rules in
    let wrong = subst (λ (n : ℕ). IsAttributeFault (4 + n) words c.in_err-always.field-0.0) counted c.in_err-always.ensures.wrong in
    rw (p.1, p.2)
    (misplaced_attribute words (registry_by registry) root api c.in_ok-names.names.items c.in_err-always.field-0.0 (goes_back registry api file.1 goes.1) named.1 front c.in_ok-names.ensures wrong)

pub returns-clause-request : goal.returns-clause-request
returns-clause-request c =
    let words = items_of c.args.words.now in
    let registry = c.in-Some.registry.now in
    let root = c.in-Some-file_name.root.now in
    let api = c.in-Some-api_of.api.now in
    let file = c.in-Some.ensures.named in
    let named = c.in-Some-file_name.ensures.named in
    let goes = c.in-Some-api_of.ensures.goes in
    let names = c.in_ok-names.names.items in
    let leads = c.in_ok-names.ensures in
    let always = c.in_ok-always.always.items in
    let set = c.in_ok-always.ensures.read in
    let front = front_4 (codes "build") words c.requires.first registry root api file.0 named.0 goes.0 in
    let counted : c.len.result ≡ length names = search rules in
    let words_are = subst (λ (n : ℕ). words ≡ take (4 + n) words ++ map attribute_word always) counted set.words_are in
    let all : words ≡ build_words (registry_by registry) root api names always = all_set words (registry_by registry) root api names always front leads words_are in
    let root_is : c.from_string.result ≡ root = search rules in
    let api_is : c.in_ok-api.api ≡ api = search rules in
    let file_is : c.in_ok-registry_file.field-0 ≡ registry_by registry = c.in_ok-registry_file.ensures.read in
    rw (root_is, api_is, file_is, c.from_vec.ensures, c.from_vec-2.ensures) (goes_back registry api file.1 goes.1, named.1, leads.names_are, set.names_are, all)
