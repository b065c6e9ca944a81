use Rattle.std.proofs.Common.{◌++◌, inl, inr, sym, ap, ◌∙◌, string_bytes}
use Rattle.vkb_gen.specs.Registry.{pointer_of}
use Rattle.vkb_gen.specs.declared.items.Parents.{Parents}
use Rattle.vkb_gen.proofs.registry.put_pointer.Goals as goal

pub returns-in_ok-write-in-One : goal.returns-in_ok-write-in-One
returns-in_ok-write-in-One c =
    let put = c.in_ok-write-in-One.ensures.bytes in
    let text = string_bytes c.args.text.now in
    elim c.in-One.is [
      | inl one ↦ put ∙ ap (λ (p : Parents). text ++ pointer_of p) (sym one)
      | inr two ↦ put ∙ ap (λ (p : Parents). text ++ pointer_of p) (sym two.1)
    ]
