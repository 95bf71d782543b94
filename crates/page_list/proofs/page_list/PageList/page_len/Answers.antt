use Rattle.std.proofs.Common.{length, ◌∙◌, arith}
use Rattle.page_list.proofs.Seen.{read_length, page_here}
use Rattle.page_list.proofs.page_list.PageList.page_len.Goals as goal

pub index-requires : goal.index-requires
index-requires g c =
    omega (
      arith,
      c.self.inside.pages.ok.0,
      page_here c.self.inside.pages.items (length c.self.inside.free.items) c.args.self.now
          c.self.view_is c.args.page c.requires,
    )

pub returns : goal.returns
returns g c =
    let read = read_length c.self.inside.pages.items (length c.self.inside.free.items) c.args.self.now c.self.view_is
    c.self.invariant.filled
    c.args.page c.index.result.now c.requires c.index.ensures in
    record {
      length = c.len.ensures ∙ read.0;
      some = omega (arith, c.len.ensures, read.1);
      bound = omega (arith, c.len.ensures, read.2);
    }
