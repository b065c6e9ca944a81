use Rattle.std.proofs.Common.{◌∙◌, ◌++◌, ◌∷◌, [], List, ℕ, ap, true}
use Rattle.doc_build.specs.declared.Piece.{Piece}
use Rattle.doc_build.proofs.pages.put_statement.Goals as goal

pub returns : goal.returns
returns c =
    let piece : List ℕ → Piece = λ bytes. record { line = c.args.number; statement = c.args.place; start = 0; marked = true; bytes = bytes } in
    c.in_ok-push.ensures.items ∙ ap (λ (bytes : List ℕ). c.args.pieces.now.items ++ piece bytes ∷ []) (c.in_ok-bytes.ensures c.args.place)
